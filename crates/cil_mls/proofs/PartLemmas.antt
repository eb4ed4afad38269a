-- A text is parted at a byte in one way alone.
use Rattle.std.specs.Prelude.{◌≡◌, ℕ, zero, suc, true, false, ◌==◌, List, [], ◌∷◌, ◌++◌}
use Rattle.std.proofs.Common.{refl, sym, ◌∙◌, ap, subst, arith}
use Rattle.std.proofs.lemmas.Bool.Decides.{nat_tests}
use Rattle.cil_mls.specs.LevelTexts.{IsParted, IsWithout}

head_without : (byte x : ℕ) (xs : List ℕ) → IsWithout byte (x ∷ xs) → (x == byte) ≡ false
head_without byte x xs w = w zero x (omega arith)

tail_without : (byte x : ℕ) (xs : List ℕ) → IsWithout byte (x ∷ xs) → IsWithout byte xs
tail_without byte x xs w k d l = w (suc k) d (omega (arith, l))

is_itself : (b : ℕ) → (b == b) ≡ true
is_itself b = grind (arith, nat_tests)

front_once : (byte : ℕ) (f g r s : List ℕ) → IsWithout byte f → IsWithout byte g → f ++ byte ∷ r ≡ g ++ byte ∷ s → (f ≡ g) × (r ≡ s)
front_once byte [] [] r s v w e = (refl, let t : byte ∷ r ≡ byte ∷ s = e in cc)
front_once byte [] (y ∷ ys) r s v w e =
    let same : y ≡ byte = (let t : byte ∷ r ≡ y ∷ (ys ++ byte ∷ s) = e in cc) in
    let not_it = head_without byte y ys w in let it = subst (λ z. (z == byte) ≡ true) (sym same) (is_itself byte) in absurd cc
front_once byte (x ∷ xs) [] r s v w e =
    let same : x ≡ byte = (let t : x ∷ (xs ++ byte ∷ r) ≡ byte ∷ s = e in cc) in
    let not_it = head_without byte x xs v in let it = subst (λ z. (z == byte) ≡ true) (sym same) (is_itself byte) in absurd cc
front_once byte (x ∷ xs) (y ∷ ys) r s v w e =
    let t : x ∷ (xs ++ byte ∷ r) ≡ y ∷ (ys ++ byte ∷ s) = e in
    let front : x ≡ y = cc in
    let back : xs ++ byte ∷ r ≡ ys ++ byte ∷ s = cc in
    let rest = front_once byte xs ys r s (tail_without byte x xs v) (tail_without byte y ys w) back in
    (ap (λ z. z ∷ xs) front ∙ ap (λ zs. y ∷ zs) rest.0, rest.1)

-- what is before the first such byte, and what is behind it, are fixed
pub parted_once : (byte : ℕ) (text f g r s : List ℕ) → IsParted byte text f r → IsParted byte text g s → (f ≡ g) × (r ≡ s)
parted_once byte text f g r s p q = front_once byte f g r s p.without q.without (sym p.whole ∙ q.whole)

behind : (byte : ℕ) (f r : List ℕ) → IsWithout byte (f ++ byte ∷ r) → ⊥
behind byte [] r w = let n = head_without byte byte r w in let t = is_itself byte in cc
behind byte (x ∷ xs) r w = behind byte xs r (tail_without byte x (xs ++ byte ∷ r) w)

-- a text without such a byte is not parted at one
pub not_parted : (byte : ℕ) (text f r : List ℕ) → IsWithout byte text → IsParted byte text f r → ⊥
not_parted byte text f r w p = behind byte f r (subst (IsWithout byte) p.whole w)
