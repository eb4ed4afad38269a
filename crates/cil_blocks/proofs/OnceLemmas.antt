-- Numbers that are kept once: what is kept once stays so when it is put behind others once more.
use Rattle.std.proofs.Common.{◌≡◌, ℕ, zero, suc, Bool, true, false, if◌then◌else◌, List, [], ◌∷◌, ◌++◌, refl, sym, ◌∙◌, ap, subst, arith}
use Rattle.std.specs.Prelude.{◌==◌, ◌||◌}
use Rattle.std.specs.List.{list_any}
use Rattle.std.proofs.Math.Dec.{eqb}
use Rattle.std.proofs.lemmas.Bool.{eqb-true}
use Rattle.std.proofs.lemmas.List.Folds.{list_any-append}
use Rattle.std.proofs.lemmas.List.Sums.{fold-append}
use Rattle.indexmap.specs.IndexSet.{insert_key}
use Rattle.cil_blocks.specs.Numbers.{with_number, with_numbers}

-- whether a number is there
abbrev has : ℕ → List ℕ → Bool
has k xs = list_any (λ m. k == m) xs

itself : (k : ℕ) → (k == k) ≡ true
itself k = grind arith

or_true : (a b : Bool) → a ≡ true → (a || b) ≡ true
or_true true b e = refl
or_true false b e = absurd (let f : false ≡ true = e in cc)

or_right : (a b : Bool) → b ≡ true → (a || b) ≡ true
or_right true b e = refl
or_right false b e = e

last_has : (k : ℕ) (xs : List ℕ) → has k (xs ++ k ∷ []) ≡ true
last_has k xs = list_any-append (λ m. k == m) xs (k ∷ []) ∙ or_right (has k xs) ((k == k) || false) (or_true (k == k) false (itself k))

-- ---- what is there stays

kept_by : (k m : ℕ) (xs : List ℕ) (b : Bool) → has k xs ≡ true → has k (if b then xs else xs ++ m ∷ []) ≡ true
kept_by k m xs true e = e
kept_by k m xs false e = list_any-append (λ n. k == n) xs (m ∷ []) ∙ or_true (has k xs) (has k (m ∷ [])) e

all_kept : (k : ℕ) (xs ms : List ℕ) → has k xs ≡ true → has k (with_numbers xs ms) ≡ true
all_kept k xs [] e = e
all_kept k xs (m ∷ ms) e = all_kept k (with_number xs m) ms (kept_by k m xs ((m == 0) || has m xs) e)

-- ---- what is put in is there

put_by : (k : ℕ) (xs : List ℕ) (b : Bool) → has k xs ≡ b → has k (if b then xs else xs ++ k ∷ []) ≡ true
put_by k xs true e = e
put_by k xs false e = last_has k xs

put_in : (k : ℕ) (xs : List ℕ) → (k == 0) ≡ false → has k (with_number xs k) ≡ true
put_in k xs e = ap (λ b. has k (if b || has k xs then xs else xs ++ k ∷ [])) e ∙ put_by k xs (has k xs) refl

comes_by : (k m : ℕ) (acc ms : List ℕ) (b : Bool) → (k == m) ≡ b → (k == 0) ≡ false → (b || has k ms) ≡ true
    → (has k ms ≡ true → has k (with_numbers (with_number acc m) ms) ≡ true) → has k (with_numbers (with_number acc m) ms) ≡ true
comes_by k m acc ms true same z e more =
    all_kept k (with_number acc m) ms (subst (λ x. has k (with_number acc x) ≡ true) (eqb-true k m same) (put_in k acc z))
comes_by k m acc ms false same z e more = more e

comes_in : (k : ℕ) (ks acc : List ℕ) → (k == 0) ≡ false → has k ks ≡ true → has k (with_numbers acc ks) ≡ true
comes_in k [] acc z e = absurd (let f : false ≡ true = e in cc)
comes_in k (m ∷ ms) acc z e = comes_by k m acc ms (k == m) refl z e (λ f. comes_in k ms (with_number acc m) z f)

-- ---- once more

again_by : (acc xs : List ℕ) (k : ℕ) (z b : Bool) → (k == 0) ≡ z → has k xs ≡ b
    → with_numbers acc (if z || b then xs else xs ++ k ∷ []) ≡ (if z || has k (with_numbers acc xs) then with_numbers acc xs else with_numbers acc xs ++ k ∷ [])
again_by acc xs k true b e f = refl
again_by acc xs k false true e f =
    ap (λ (c : Bool). if c then with_numbers acc xs else with_numbers acc xs ++ k ∷ []) (sym (comes_in k xs acc e f))
again_by acc xs k false false e f =
    fold-append with_number acc xs (k ∷ [])
    ∙ ap (λ (c : Bool). if c || has k (with_numbers acc xs) then with_numbers acc xs else with_numbers acc xs ++ k ∷ []) e

one_again : (acc xs : List ℕ) (k : ℕ) → with_numbers acc (with_number xs k) ≡ with_number (with_numbers acc xs) k
one_again acc xs k = again_by acc xs k (k == 0) (has k xs) refl refl

-- numbers that are kept once behind others, and these behind others still
pub again : (ys acc xs : List ℕ) → with_numbers acc (with_numbers xs ys) ≡ with_numbers (with_numbers acc xs) ys
again [] acc xs = refl
again (y ∷ ys) acc xs = again ys acc (with_number xs y) ∙ ap (λ zs. with_numbers zs ys) (one_again acc xs y)

-- a whole scope behind others
pub scope_again : (acc xs : List ℕ) → with_numbers acc (with_numbers [] xs ++ 0 ∷ []) ≡ with_numbers acc xs
scope_again acc xs = fold-append with_number acc (with_numbers [] xs) (0 ∷ []) ∙ again xs acc []

pub more_numbers : (acc xs ys : List ℕ) → with_numbers acc (xs ++ ys) ≡ with_numbers (with_numbers acc xs) ys
more_numbers acc xs ys = fold-append with_number acc xs ys

-- ---- the number of the global namespace is never there

none_by : (k : ℕ) (xs : List ℕ) (z : Bool) → (k == 0) ≡ z → has 0 (if z || has k xs then xs else xs ++ k ∷ []) ≡ has 0 xs
none_by k xs true e = refl
none_by k xs false e = other (has k xs) where
  never : (0 == k) ≡ false
  never = zero_last k e where
    zero_last : (k : ℕ) → (k == 0) ≡ false → (0 == k) ≡ false
    zero_last zero f = absurd (let g : true ≡ false = f in cc)
    zero_last (suc k) f = grind arith

  or_none : (a : Bool) → (a || false) ≡ a
  or_none true = refl
  or_none false = refl

  other : (b : Bool) → has 0 (if b then xs else xs ++ k ∷ []) ≡ has 0 xs
  other true = refl
  other false = list_any-append (λ m. 0 == m) xs (k ∷ []) ∙ ap (λ b. has 0 xs || (b || false)) never ∙ or_none (has 0 xs)

pub no_global : (ks xs : List ℕ) → has 0 (with_numbers xs ks) ≡ has 0 xs
no_global [] xs = refl
no_global (k ∷ ks) xs = no_global ks (with_number xs k) ∙ none_by k xs (k == 0) refl

-- so it is put last
pub put_last : (xs new : List ℕ) → new ≡ insert_key eqb xs 0 → has 0 xs ≡ false → new ≡ xs ++ 0 ∷ []
put_last xs new e none = e ∙ ap (λ (b : Bool). if b then xs else xs ++ 0 ∷ []) none
