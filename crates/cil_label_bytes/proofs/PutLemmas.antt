-- What the writers of pairs put.
use Rattle.std.proofs.Common.{◌≡◌, ℕ, zero, suc, ◌+◌, ◌<◌, ◌≤◌, List, [], ◌∷◌, ◌++◌, length, take, get_or, refl, sym, ap, ◌∙◌, append_assoc, arith}
use Rattle.std.specs.List.{flat_map}
use Rattle.std.proofs.Math.Seq.{take-suc}
use Rattle.std.proofs.lemmas.List.{append-nil, length-take}
use Rattle.std.proofs.lemmas.Grind.{flat_map-append}
use Rattle.std.proofs.lemmas.List.Concat.{flat_map-cons}
use Rattle.cil_label_bytes.specs.Layout.{zipped}
use Rattle.cil_label_bytes.proofs.PairLemmas.{zipped_push}

-- ---- how many pairs there are

module _ {A B : Type 0} where
  pub fewer_first : (xs : List A) (ys : List B) → length xs < length ys → length xs ≡ length (zipped xs ys)
  fewer_first [] ys lt = refl
  fewer_first (x ∷ xs) [] lt = absurd (omega (arith, lt))
  fewer_first (x ∷ xs) (y ∷ ys) lt = ap suc (fewer_first xs ys (omega (arith, lt)))

  pub fewer_second : (xs : List A) (ys : List B) → length ys ≤ length xs → length ys ≡ length (zipped xs ys)
  fewer_second [] [] le = refl
  fewer_second [] (y ∷ ys) le = absurd (omega (arith, le))
  fewer_second (x ∷ xs) [] le = refl
  fewer_second (x ∷ xs) (y ∷ ys) le = ap suc (fewer_second xs ys (omega (arith, le)))

  -- the pairs of so many from the front are all pairs
  pub zipped_all : (n : ℕ) (xs : List A) (ys : List B) → length (zipped xs ys) ≤ n → zipped (take n xs) (take n ys) ≡ zipped xs ys
  zipped_all zero [] ys le = refl
  zipped_all zero (x ∷ xs) [] le = refl
  zipped_all zero (x ∷ xs) (y ∷ ys) le = absurd (omega (arith, le))
  zipped_all (suc n) [] ys le = refl
  zipped_all (suc n) (x ∷ xs) [] le = refl
  zipped_all (suc n) (x ∷ xs) (y ∷ ys) le = ap (λ w. (x, y) ∷ w) (zipped_all n xs ys (omega (arith, le)))

-- ---- pairs, one behind the other

module _ {A B : Type 0} (spell : A × B → List ℕ) (xs : List A) (ys : List B) (front : List ℕ) (at : ℕ) where
  -- one pair more is put
  pub pair_put : (a d : A) (b e : B) (out one all first second : List ℕ) → at < length xs → at < length ys → a ≡ get_or xs at d → b ≡ get_or ys at e → spell (a, b) ≡ first ++ second
      → out ≡ front ++ flat_map spell (zipped (take at xs) (take at ys)) → one ≡ out ++ first → all ≡ one ++ second
      → all ≡ front ++ flat_map spell (zipped (take (at + 1) xs) (take (at + 1) ys))
  pair_put a d b e out one all first second lt below is_a is_b parts so_far p q =
      let next : at + 1 ≡ suc at = omega arith in
      let more_xs : take (at + 1) xs ≡ take at xs ++ a ∷ [] = ap (λ n. take n xs) next ∙ take-suc xs at d lt ∙ ap (λ w. take at xs ++ w ∷ []) (sym is_a) in
      let more_ys : take (at + 1) ys ≡ take at ys ++ b ∷ [] = ap (λ n. take n ys) next ∙ take-suc ys at e below ∙ ap (λ w. take at ys ++ w ∷ []) (sym is_b) in
      let old = zipped (take at xs) (take at ys) in
      let count : length (take at xs) ≡ length (take at ys) = omega (arith, length-take at xs, length-take at ys, lt, below) in
      let pairs : zipped (take (at + 1) xs) (take (at + 1) ys) ≡ old ++ (a, b) ∷ [] = ap (λ w. zipped w (take (at + 1) ys)) more_xs ∙ ap (zipped (take at xs ++ a ∷ [])) more_ys ∙ sym (zipped_push (take at xs) (take at ys) a b count) in
      let last : flat_map spell ((a, b) ∷ []) ≡ spell (a, b) = flat_map-cons spell (a, b) [] ∙ append-nil (spell (a, b)) in
      let spelled : flat_map spell (zipped (take (at + 1) xs) (take (at + 1) ys)) ≡ flat_map spell old ++ (first ++ second) =
      ap (flat_map spell) pairs ∙ flat_map-append spell old ((a, b) ∷ []) ∙ ap (λ w. flat_map spell old ++ w) (last ∙ parts) in
      q ∙ ap (λ w. w ++ second) (p ∙ ap (λ w. w ++ first) so_far ∙ append_assoc front (flat_map spell old) first)
      ∙ append_assoc front (flat_map spell old ++ first) second ∙ ap (λ w. front ++ w) (append_assoc (flat_map spell old) first second ∙ sym spelled)

  -- all are put
  pub pairs_put : (out : List ℕ) → length (zipped xs ys) ≤ at → out ≡ front ++ flat_map spell (zipped (take at xs) (take at ys)) → out ≡ front ++ flat_map spell (zipped xs ys)
  pairs_put out le so_far = so_far ∙ ap (λ w. front ++ flat_map spell w) (zipped_all at xs ys le)
