-- Numbers from which a way up was gone before: all round them are in the list.
use Rattle.std.proofs.Common.{◌≡◌, ◌⊎◌, ℕ, ◌<◌, Bool, true, false, if◌then◌else◌, List, [], ◌∷◌, ◌++◌, refl, sym, ◌∙◌, ap, subst, inl, inr, arith}
use Rattle.std.specs.Prelude.{◌==◌, ◌||◌, Contains, None, Some, not}
use Rattle.std.specs.List.{list_any}
use Rattle.std.proofs.Math.Dec.{eqb}
use Rattle.std.proofs.lemmas.Bool.{eqb-true}
use Rattle.std.proofs.lemmas.List.Elements.{Contains-append_cases, Contains-append_left, Contains-append_right}
use Rattle.indexmap.specs.IndexSet.{insert_key}
use Rattle.indexmap.proofs.CallerLemmas.{Contains-list_any}
use Rattle.cil_base.specs.Lists.{contains_cases, contains_here, contains_later, contains_none}
use Rattle.cil_base.specs.Searches.{any_from}
use Rattle.cil_blocks.specs.declared.namespaces.Space.{Space}
use Rattle.cil_blocks.specs.Namespaces.{AreNamespaces, inner_at}
use Rattle.cil_blocks.specs.Numbers.{AreGoneUp, chain_numbers, with_number, with_numbers}
use Rattle.cil_blocks.proofs.ChainNumbers.{none_round, one_round}
use Rattle.cil_blocks.proofs.Kept.{in_one}
use Rattle.cil_blocks.proofs.NumberLemmas.{inner_behind}

abbrev has : ℕ → List ℕ → Bool
has k ks = list_any (λ m. k == m) ks

number_itself : (k : ℕ) → (k == k) ≡ true
number_itself k = grind arith

-- ---- a number in a list

there_stays : (k m : ℕ) (ks : List ℕ) (b : Bool) → Contains ks m → Contains (if b then ks else ks ++ k ∷ []) m
there_stays k m ks true c = c
there_stays k m ks false c = Contains-append_left ks (k ∷ []) m c

stays : (ks : List ℕ) (k m : ℕ) → Contains ks m → Contains (with_number ks k) m
stays ks k m c = there_stays k m ks ((k == 0) || has k ks) c

is_put : (ks : List ℕ) (k : ℕ) (b : Bool) → has k ks ≡ b → Contains (if b then ks else ks ++ k ∷ []) k
is_put ks k true e = Contains-list_any eqb (λ x y f. eqb-true x y f) ks k e
is_put ks k false e = Contains-append_right ks (k ∷ []) k (contains_here k [])

put : (ks : List ℕ) (k : ℕ) → (k == 0) ≡ false → Contains (with_number ks k) k
put ks k e = subst (λ b. Contains (if b || has k ks then ks else ks ++ k ∷ []) k) (sym e) (is_put ks k (has k ks) refl)

same_by : (ks : List ℕ) (k : ℕ) (z : Bool) → has k ks ≡ true → (if z || has k ks then ks else ks ++ k ∷ []) ≡ ks
same_by ks k true e = refl
same_by ks k false e = ap (λ b. if b then ks else ks ++ k ∷ []) e

-- numbers that are there change nothing
all_there : (more ks : List ℕ) → ((m : ℕ) → Contains more m → Contains ks m) → with_numbers ks more ≡ ks
all_there [] ks all = refl
all_there (k ∷ more) ks all =
    ap (λ xs. with_numbers xs more) (same_by ks k (k == 0) (any_from (λ m. k == m) ks k (all k (contains_here k more)) (number_itself k)))
    ∙ all_there more ks (λ m c. all m (contains_later m k more c))

-- a number that was put in was new, or there
pub was_new : (at : ℕ) (gone : List ℕ) (new : Bool) → new ≡ not (list_any (eqb at) gone) → new ≡ true → list_any (eqb at) gone ≡ false
was_new at gone new e f = by_cases (list_any (eqb at) gone) (sym e ∙ f) where
  by_cases : (b : Bool) → not b ≡ true → b ≡ false
  by_cases true g = sym g
  by_cases false g = refl

pub was_there : (at : ℕ) (gone : List ℕ) (new : Bool) → new ≡ not (list_any (eqb at) gone) → new ≡ false → list_any (eqb at) gone ≡ true
was_there at gone new e f = by_cases (list_any (eqb at) gone) (sym e ∙ f) where
  by_cases : (b : Bool) → not b ≡ false → b ≡ true
  by_cases true g = refl
  by_cases false g = sym g

-- ---- on the way up

-- what is round such a number is in the list, or still to come: then it is that of this way
abbrev pub IsOnTheWay : List Space → List ℕ → List ℕ → ℕ → Type 0
IsOnTheWay ss gone ks at = (k : ℕ) → Contains gone k → (m : ℕ) → Contains (chain_numbers ss k) m → Contains ks m ⊎ ((at < k) × Contains (chain_numbers ss at) m)

pub begun : (ss : List Space) (gone ks : List ℕ) (at : ℕ) → AreGoneUp ss gone ks → IsOnTheWay ss gone ks at
begun ss gone ks at up k c m d = inl (up k c m d)

module _ (ss : List Space) (are : AreNamespaces ss) where
  not_outside : (at : ℕ) (s : Space) → inner_at ss at ≡ Some s → (at == 0) ≡ false
  not_outside at s e = let h = inner_behind ss are at s e in grind (arith, h)

  -- what was round a number is there, or round the next one
  next : (at : ℕ) (s : Space) (ks : List ℕ) (m : ℕ) → inner_at ss at ≡ Some s → Contains (chain_numbers ss at) m → Contains (with_number ks at) m ⊎ Contains (chain_numbers ss s.outer) m
  next at s ks m e c =
      elim (contains_cases m at (chain_numbers ss s.outer) (subst (λ xs. Contains xs m) (one_round ss are at s e) c)) [
        | inl same ↦ inl (subst (Contains (with_number ks at)) same (put ks at (not_outside at s e)))
        | inr d ↦ inr d
      ]

  -- a step up
  pub further : (at : ℕ) (s : Space) (gone new_gone ks new : List ℕ) → inner_at ss at ≡ Some s → new_gone ≡ insert_key eqb gone at → new ≡ with_number ks at
      → list_any (eqb at) gone ≡ false → IsOnTheWay ss gone ks at → IsOnTheWay ss new_gone new s.outer
  further at s gone new_gone ks new e f g none way k c m d =
      let behind = inner_behind ss are at s e in
      let there : Contains (gone ++ at ∷ []) k = subst (λ xs. Contains xs k) (f ∙ ap (λ (b : Bool). if b then gone else gone ++ at ∷ []) none) c in
      subst (λ xs. Contains xs m ⊎ ((s.outer < k) × Contains (chain_numbers ss s.outer) m)) (sym g)
      (elim (Contains-append_cases gone (at ∷ []) k there) [
        | inl old ↦ elim (way k old m d) [
          | inl x ↦ inl (stays ks at m x)
          | inr (above, x) ↦ elim (next at s ks m e x) [ inl y ↦ inl y | inr y ↦ inr (omega (arith, behind, above), y) ]
        ]
        | inr last ↦
            let same = in_one k at last in
            elim (next at s ks m e (subst (λ x. Contains (chain_numbers ss x) m) same d)) [ inl y ↦ inl y | inr y ↦ inr (omega (arith, behind, same), y) ]
      ])

  -- at a number from which a way up was gone before
  all_round : (at : ℕ) (gone ks : List ℕ) → Contains gone at → IsOnTheWay ss gone ks at → (m : ℕ) → Contains (chain_numbers ss at) m → Contains ks m
  all_round at gone ks c way m d = elim (way at c m d) [ inl x ↦ x | inr (above, x) ↦ absurd (omega (arith, above)) ]

  been_there : (at : ℕ) (gone : List ℕ) → list_any (eqb at) gone ≡ true → Contains gone at
  been_there at gone e = Contains-list_any eqb (λ x y f. eqb-true x y f) gone at e

  pub stopped : (at : ℕ) (gone ks : List ℕ) → list_any (eqb at) gone ≡ true → IsOnTheWay ss gone ks at → with_numbers ks (chain_numbers ss at) ≡ ks
  stopped at gone ks e way = all_there (chain_numbers ss at) ks (all_round at gone ks (been_there at gone e) way)

  pub stopped_up : (at : ℕ) (gone new_gone ks : List ℕ) → list_any (eqb at) gone ≡ true → new_gone ≡ insert_key eqb gone at → IsOnTheWay ss gone ks at → AreGoneUp ss new_gone ks
  stopped_up at gone new_gone ks e f way k c m d =
      elim (way k (subst (λ xs. Contains xs k) (f ∙ ap (λ (b : Bool). if b then gone else gone ++ at ∷ []) e) c) m d) [
        | inl x ↦ x
        | inr (above, x) ↦ all_round at gone ks (been_there at gone e) way m x
      ]

  -- at the global namespace
  pub ended : (at : ℕ) (gone ks : List ℕ) → inner_at ss at ≡ None → IsOnTheWay ss gone ks at → AreGoneUp ss gone ks
  ended at gone ks e way k c m d =
      elim (way k c m d) [
        | inl x ↦ x
        | inr (above, x) ↦ absurd (contains_none m (subst (λ xs. Contains xs m) (none_round ss are at e) x))
      ]
