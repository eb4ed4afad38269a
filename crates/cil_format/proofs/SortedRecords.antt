-- Records that rise by their bytes rise by what they say.
use Rattle.std.proofs.Common.{◌≡◌, ℕ, ◌<◌, ◌^◌, Bool, true, List, [], ◌∷◌, ◌++◌, length, take, Option, Some, None, refl, sym, ap, ◌∙◌, append_assoc}
use Rattle.std.specs.Cmp.{IsTotalOrder}
use Rattle.std.specs.Cmp.Lexicographic.{slice_cmp}
use Rattle.std.specs.Int.{w32, to_be_bytes}
use Rattle.std.specs.List.{AllByRecursion}
use Rattle.std.specs.List.Sorted.{IsStrictlySortedBy}
use Rattle.std.specs.Ordering.{nat_cmp, is_lt}
use Rattle.std.specs.declared.cmp.Ordering.{Ordering}
use Rattle.std.specs.declared.cmp.Ordering.TheVariants.{Less, Equal, Greater}
use Rattle.std.proofs.lemmas.List.{take_at}
use Rattle.cil_format.specs.Fields.{below, by_text, text, text_in}
use Rattle.cil_format.specs.Format.{rise}
use Rattle.cil_format.proofs.Bytes.{wide32}

module _ {X : Type 0} (less : List ℕ → List ℕ → Bool) (spell : X → List ℕ) (Fits : X → Type 0) (order : X → X → Ordering) (total : IsTotalOrder order)
    (says : (a b : X) → Fits a → Fits b → less (spell a) (spell b) ≡ true → order a b ≡ Less) where
  above : (a b : X) (more : List X) → order a b ≡ Less → AllByRecursion (λ y. order b y ≡ Less) more → AllByRecursion (λ y. order a y ≡ Less) more
  above a b [] lt all = tt
  above a b (c ∷ more) lt all = (total.trans a b c lt all.0, above a b more lt all.1)

  sorted_from : (a : X) (xs : List X) → Fits a → AllByRecursion Fits xs → rise less spell (Some (spell a)) xs → AllByRecursion (λ y. order a y ≡ Less) xs × IsStrictlySortedBy order xs
  unfolding IsStrictlySortedBy
  sorted_from a [] fits all up = (tt, tt)
  sorted_from a (b ∷ more) fits all up =
      let lt = says a b fits all.0 up.0 in
      let on = sorted_from b more all.0 all.1 up.1 in
      ((lt, above a b more lt on.0), on)

  pub sorted_records : (xs : List X) → AllByRecursion Fits xs → rise less spell None xs → IsStrictlySortedBy order xs
  unfolding IsStrictlySortedBy
  sorted_records [] all up = tt
  sorted_records (a ∷ more) all up = sorted_from a more all.0 all.1 up.1

-- ---- by the texts at their fronts

pub is_less : (o : Ordering) → is_lt o ≡ true → o ≡ Less
is_less Less e = refl
is_less Equal e = absurd cc
is_less Greater e = absurd cc

-- the text at the front is found
pub text_in_front : (t more : List ℕ) → text.Fits t → text_in (text.spell t ++ more) ≡ t
text_in_front t more fits =
    ap text_in (append_assoc (to_be_bytes w32 (length t)) t more) ∙ ap (λ (n : ℕ). take n (t ++ more)) (wide32.again (length t) fits.0.0) ∙ take_at t more (length t) refl

pub text_below : (a b more rest : List ℕ) → text.Fits a → text.Fits b → by_text (text.spell a ++ more) (text.spell b ++ rest) ≡ true → slice_cmp nat_cmp a b ≡ Less
text_below a b more rest fa fb up =
    is_less (slice_cmp nat_cmp a b) (sym (ap (λ (w : List ℕ). below w (text_in (text.spell b ++ rest))) (text_in_front a more fa) ∙ ap (below a) (text_in_front b rest fb)) ∙ up)
