-- What declared names hold at first, one after another.
use Rattle.std.proofs.Common.{◌≡◌, ◌⊎◌, ℕ, ◌+◌, ◌<◌, List, [], ◌∷◌, ◌++◌, length, sym, ◌∙◌, ap, inl, inr, arith}
use Rattle.std.specs.Prelude.{Some, slice_get}
use Rattle.std.specs.Ordering.{nat_cmp}
use Rattle.cil_base.specs.Lists.{Lists}
use Rattle.cil_base.specs.Places.{get_in_front, get_last, in_range}
use Rattle.cil_syntax.specs.declared.kind.Kind.{Kind}
use Rattle.cil_known.specs.macros.Item.{Item}
use Rattle.cil_known.specs.declared.known.Known.{Known}
use Rattle.cil_known.specs.names.Declarations.{name_of}
use Rattle.cil_known.specs.Spaces.{SpaceOf}
use Rattle.cil_attrs.specs.Holding.{AreAll}

-- one more
module _ {X Y : Type 0} (f : ℕ → X → Y) (xs : List X) (at : ℕ) (old new : List Y) (y : Y) where
  pub one_begun : length old ≡ at → ((k : ℕ) (x : X) → k < at → slice_get xs k ≡ Some x → slice_get old k ≡ Some (f k x)) → ((x : X) → slice_get xs at ≡ Some x → y ≡ f at x) → new ≡ old ++ y ∷ []
      → (k : ℕ) (x : X) → k < at + 1 → slice_get xs k ≡ Some x → slice_get new k ≡ Some (f k x)
  one_begun len so here push k x l is = elim (below_or_at k at l) [
    | inl below ↦ ap (λ ys. slice_get ys k) push ∙ get_in_front old (y ∷ []) k (omega (arith, below, len)) ∙ so k x below is
    | inr e ↦ ap (λ ys. slice_get ys k) push ∙ ap (slice_get (old ++ y ∷ [])) (e ∙ sym len) ∙ get_last old y ∙ ap Some (here x (ap (slice_get xs) (sym e) ∙ is)) ∙ ap (λ n. Some (f n x)) (sym e)
  ]
    where
      below_or_at : (i n : ℕ) → i < n + 1 → (i < n) ⊎ (i ≡ n)
      below_or_at i n m = grind arith

pub every_item : (k : Known) (xs : List Item) (sections : Kind → List (List ℕ)) (which : SpaceOf) (names : List (List ℕ)) (all : List ℕ) → sections which.item ≡ names
    → Lists nat_cmp (λ v. v < length names) all → AreAll k xs sections which all
every_item k xs sections which names all e l t n is = (l.members n).1 (in_range names n (name_of t) (ap (λ ns. slice_get ns n) (sym e) ∙ is.numbered))
