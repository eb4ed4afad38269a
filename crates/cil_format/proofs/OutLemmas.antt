-- What was put where bytes go, one piece behind the other.
use Rattle.std.specs.Prelude.{OnOk, Result, Some, slice_get}
use Rattle.std.specs.List.{flat_map}
use Rattle.std.proofs.Common.{◌≡◌, ℕ, suc, ◌+◌, ◌≤◌, List, [], ◌∷◌, ◌++◌, get_or, length, take, sym, ap, subst, ◌∙◌, append_assoc, arith}
use Rattle.std.proofs.Math.Seq.{take-suc}
use Rattle.std.proofs.lemmas.Grind.{flat_map-append}
use Rattle.std.proofs.lemmas.List.{append-nil, take_all}
use Rattle.std.proofs.lemmas.Option.{get_or_from_slice_get}
use Rattle.cil_base.specs.declared.memory.NoMemory.{NoMemory}
use Rattle.cil_base.specs.Places.{in_range}

-- two pieces are one
module _ {X : Type 0} (holds : X → List ℕ → Type 0) (x : X) (before a b whole : List ℕ) (parts : whole ≡ a ++ b) where
  pub two_pieces : holds x ((before ++ a) ++ b) → holds x (before ++ whole)
  two_pieces h = subst (holds x) (append_assoc before a b ∙ ap (λ (w : List ℕ). before ++ w) (sym parts)) h

  -- the same, where the second may not have been put
  pub two_pieces_by : (r : Result (Unit {0}) NoMemory) → OnOk r (holds x ((before ++ a) ++ b)) → OnOk r (holds x (before ++ whole))
  two_pieces_by r h = subst (λ (w : List ℕ). OnOk r (holds x w)) (append_assoc before a b ∙ ap (λ (w : List ℕ). before ++ w) (sym parts)) h

-- records, one behind the other
module _ {X A : Type 0} (holds : X → List ℕ → Type 0) (spell : A → List ℕ) (xs : List A) (i : ℕ) (x : X) (front : List ℕ) (so_far : holds x (front ++ flat_map spell (take i xs))) where
  -- one more
  pub one_more : (y : X) (a : A) → slice_get xs i ≡ Some a → ((before : List ℕ) → holds x before → holds y (before ++ spell a)) → holds y (front ++ flat_map spell (take (i + 1) xs))
  one_more y a at put =
      let next : i + 1 ≡ suc i = omega arith in
      let is : get_or xs i a ≡ a = get_or_from_slice_get xs i a a at in
      let split : take (i + 1) xs ≡ take i xs ++ a ∷ [] =
      ap (λ (k : ℕ). take k xs) next ∙ take-suc xs i a (in_range xs i a at) ∙ ap (λ (w : A). take i xs ++ w ∷ []) is in
      let grown : flat_map spell (take (i + 1) xs) ≡ flat_map spell (take i xs) ++ spell a =
      ap (flat_map spell) split ∙ flat_map-append spell (take i xs) (a ∷ []) ∙ ap (λ (w : List ℕ). flat_map spell (take i xs) ++ w) (append-nil (spell a)) in
      subst (holds y) (append_assoc front (flat_map spell (take i xs)) (spell a) ∙ ap (λ (w : List ℕ). front ++ w) (sym grown)) (put (front ++ flat_map spell (take i xs)) so_far)

  -- all
  pub all_put : length xs ≤ i → holds x (front ++ flat_map spell xs)
  all_put le = subst (λ (w : List A). holds x (front ++ flat_map spell w)) (take_all i xs le) so_far
