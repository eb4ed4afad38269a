-- The greatest set, and what shows it.
use Rattle.std.specs.Prelude.{◌==◌, not, map}
use Rattle.std.proofs.Common.{◌≡◌, ℕ, Bool, true, false, ◌&&◌, ◌||◌, List, [], ◌∷◌, refl, sym, subst, ◌∙◌, arith}
use Rattle.std.proofs.lemmas.Bool.Decides.{nat_tests}
use Rattle.cil_base.specs.Searches.{same_truth}
use Rattle.cil_base.specs.Among.{among}
use Rattle.cil_macros.specs.Item.{Item, OptSet}
use Rattle.cil_optionals.specs.declared.reason.Reason.{Reason}
use Rattle.cil_optionals.specs.declared.reason.Reason.TheVariants.{Missing, ParentOut}
use Rattle.cil_optionals.specs.Certificate.{left_out, all_but, Holds, parent_out, missing, InOrder, one_more, IsRight}
use Rattle.cil_optionals.specs.Greatest.{IsGood, IsGreatest, LiesIn, is_optional_at}
use Rattle.cil_optionals.proofs.KeepLemmas.{resolves_keeps}

pub same_of : (p o : ℕ) → (p == o) ≡ true → p ≡ o
same_of p o h = grind (arith, nat_tests)

no_part : (a b : Bool) → (a ≡ true → ⊥) → b ≡ false → (a || b) ≡ false
no_part true b f h = absurd (f refl)
no_part false b f h = h

first_part : (a b : Bool) → (a || b) ≡ true → b ≡ false → a ≡ true
first_part true b h g = refl
first_part false b h g = absurd (let e : b ≡ true = h in cc)

pub not_both : (b : Bool) → b ≡ true → b ≡ false → ⊥
not_both b e f = let g : true ≡ false = sym e ∙ f in absurd (cc)

rest_of : (a b : Bool) → a ≡ true → b ≡ false → (a && not b) ≡ true
rest_of true false e f = refl
rest_of true true e f = absurd (not_both true refl f)
rest_of false b e f = absurd (not_both false e refl)

module _ (xs : List Item) where
  inside : (g s : OptSet) → IsGreatest xs g → IsGood xs s → LiesIn s g
  inside g s e good o h = (e o).1 (s, good, h)

  -- no good set has one of these
  abbrev Out : OptSet → List ℕ → Type 0
  Out s out = (o : ℕ) → s o ≡ true → among out o ≡ false

  lies_in_rest : (s : OptSet) (out : List ℕ) → IsGood xs s → Out s out → LiesIn s (all_but xs out)
  lies_in_rest s out good h o in_s = rest_of (is_optional_at xs o) (among out o) (good.optionals o in_s) (h o in_s)

  not_in : (s : OptSet) (out : List ℕ) (r : Reason) → IsGood xs s → Out s out → Holds xs out r → s (left_out r) ≡ true → ⊥
  not_in s out (ParentOut o) good h (parent_out q p parent there) in_s = not_both (among out p) there (h p (good.parents o p in_s parent))
  not_in s out (Missing o i j) good h (missing q k l w own fails) in_s =
      not_both _ (resolves_keeps xs s (all_but xs out) w (lies_in_rest s out good h) (good.words o i j w in_s own)) fails

  push_out : (s : OptSet) (out : List ℕ) (p : ℕ) → (s p ≡ true → ⊥) → Out s out → Out s (p ∷ out)
  push_out s out p f h o in_s = no_part (p == o) (among out o) (λ e. f (subst (λ k. s k ≡ true) (sym (same_of p o e)) in_s)) (h o in_s)

  all_out : (s : OptSet) → IsGood xs s → (out : List ℕ) (rs : List Reason) → InOrder xs out rs → Out s out → Out s (map left_out rs)
  all_out s good out [] order h = λ o in_s. refl
  all_out s good out (r ∷ rs) (one_more q k l fresh holds order) h =
      let gone : s (left_out r) ≡ true → ⊥ = not_in s out r good h holds in
      push_out s (map left_out rs) (left_out r) gone (all_out s good (left_out r ∷ out) rs order (push_out s out (left_out r) gone h))

pub union_is_good : (xs : List Item) (g : OptSet) → IsGreatest xs g → IsGood xs g
union_is_good xs g e = record {
  optionals = λ o h. let from = (e o).0 h in from.1.optionals o from.2;
  parents = λ o p h parent. let from = (e o).0 h in inside xs g from.0 e from.1 p (from.1.parents o p from.2 parent);
  words = λ o i j w h own. let from = (e o).0 h in resolves_keeps xs from.0 g w (inside xs g from.0 e from.1) (from.1.words o i j w from.2 own);
}

pub right_is_greatest : (xs : List Item) (enabled : OptSet) (reasons : List Reason) → IsRight xs enabled reasons → IsGreatest xs enabled
right_is_greatest xs enabled reasons right o = (
  λ h. (enabled, right.good, h),
  λ from.
      let out = all_out xs from.0 from.1 [] reasons right.order (λ p in_s. refl) o from.2 in
      first_part (enabled o) (among (map left_out reasons) o) (sym (right.each o) ∙ from.1.optionals o from.2) out,
)

pub one_greatest : (xs : List Item) (g h : OptSet) → IsGreatest xs g → IsGreatest xs h → g ≡ h
one_greatest xs g h a b = λ i o. same_truth (g o) (h o) (λ e. (b o).1 ((a o).0 e)) (λ e. (a o).1 ((b o).0 e)) i
