-- What a set of categories writes to a hasher, word by word, and that it tells sets apart.
use Rattle.std.specs.Prelude.{◌≡◌, ℕ, suc, ◌+◌, ◌^◌, ◌<◌, ◌≤◌, Bool, true, false, ◌==◌, cond, List, [], ◌∷◌, ◌++◌, length, drop, fold}
use Rattle.std.specs.Hash as fed
use Rattle.std.specs.Int.{from_le_bytes}
use Rattle.std.proofs.Common.{get_or, refl, sym, ◌∙◌, ap, arith, w64}
use Rattle.std.proofs.lemmas.List.{drop_all}
use Rattle.std.proofs.lemmas.List.Sums.{fold-append}
use Rattle.std.proofs.lemmas.Nat.{from_le_bytes-to_le_bytes_8}
use Rattle.cil_base.specs.Among.{equal_number}
use Rattle.cil_base.specs.Places.{cons_head, cons_tail, drop_at}
use Rattle.cil_mls.specs.Hashed.{hashed, hashed_word}

module _ {S : Type 0} (write : S → List ℕ → S) (words : List ℕ) where
  -- one word more is written, and what is left completes it
  pub word_written : (at word : ℕ) (s t all : S) → at < length words → word ≡ get_or words at 0 → t ≡ fold write s (hashed_word at word)
      → fold write s (hashed at (drop at words)) ≡ all → fold write t (hashed (at + 1) (drop (at + 1) words)) ≡ all
  unfolding hashed
  word_written at word s t all within is step before =
      ap (λ r. fold write r (hashed (at + 1) (drop (at + 1) words))) step ∙ sym (fold-append write s (hashed_word at word) (hashed (at + 1) (drop (at + 1) words)))
      ∙ ap (λ ws. fold write s (hashed at ws)) (sym (drop_at words at word 0 within is)) ∙ before

  -- all words are written
  pub all_written : (at : ℕ) (s all : S) → length words ≤ at → fold write s (hashed at (drop at words)) ≡ all → fold write s (fed.u8 16) ≡ all
  unfolding hashed
  all_written at s all over before = ap (λ ws. fold write s (hashed at ws)) (sym (drop_all at words over)) ∙ before

-- ---- sets that write the same are equal

-- what is written begins with a place, from this one on
record Begins (at : ℕ) (writes : List (List ℕ)) : Type 0 where
  place : ℕ
  rest : List (List ℕ)
  from_here : at ≤ place
  is : writes ≡ (place ∷ []) ∷ rest

word_begins : (b : Bool) (at w : ℕ) (writes : List (List ℕ)) → Begins (at + 1) writes → Begins at (cond b [] (fed.u8 at ++ fed.u64 w) ++ writes)
word_begins true at w writes h = let l = h.from_here in record { place = h.place; rest = h.rest; from_here = omega (arith, l); is = h.is }
word_begins false at w writes h = record { place = at; rest = fed.u64 w ++ writes; from_here = omega arith; is = refl }

begins : (at : ℕ) (words : List ℕ) → at + length words ≡ 16 → Begins at (hashed at words)
unfolding hashed
begins at [] e = record { place = 16; rest = []; from_here = omega (arith, e); is = refl }
begins at (w ∷ ws) e = word_begins (w == 0) at w (hashed (at + 1) ws) (begins (at + 1) ws (omega (arith, e)))

-- the bytes of a word tell what it is
same_word : (v w : ℕ) → v < 2 ^ 64 → w < 2 ^ 64 → fed.le_bytes 8 v ≡ fed.le_bytes 8 w → v ≡ w
unfolding fed.le_bytes
same_word v w p q e = sym (from_le_bytes-to_le_bytes_8 v p) ∙ ap (from_le_bytes w64) e ∙ from_le_bytes-to_le_bytes_8 w q

-- no write begins with a place and with a later one
not_both : (at : ℕ) (writes rest : List (List ℕ)) → Begins (at + 1) writes → writes ≡ (at ∷ []) ∷ rest → ⊥
not_both at writes rest h e =
    let same : h.place ∷ [] ≡ at ∷ [] = cons_head (h.place ∷ []) (at ∷ []) h.rest rest (sym h.is ∙ e) in
    let place : h.place ≡ at = cons_head h.place at [] [] same in
    let l = h.from_here in omega (arith, place, l)

word_once : (at x y : ℕ) (hx hy : List (List ℕ)) (a b : Bool) → (x == 0) ≡ a → (y == 0) ≡ b → x < 2 ^ 64 → y < 2 ^ 64 → Begins (at + 1) hx → Begins (at + 1) hy
    → cond a [] (fed.u8 at ++ fed.u64 x) ++ hx ≡ cond b [] (fed.u8 at ++ fed.u64 y) ++ hy → (x ≡ y) × (hx ≡ hy)
word_once at x y hx hy true true s t p q g h e = (equal_number x 0 s ∙ sym (equal_number y 0 t), e)
word_once at x y hx hy true false s t p q g h e = absurd (not_both at hx (fed.u64 y ++ hy) g e)
word_once at x y hx hy false true s t p q g h e = absurd (not_both at hy (fed.u64 x ++ hx) h (sym e))
word_once at x y hx hy false false s t p q g h e =
    let behind : fed.le_bytes 8 x ∷ hx ≡ fed.le_bytes 8 y ∷ hy = cons_tail (at ∷ []) (at ∷ []) (fed.le_bytes 8 x ∷ hx) (fed.le_bytes 8 y ∷ hy) e in
    (same_word x y p q (cons_head (fed.le_bytes 8 x) (fed.le_bytes 8 y) hx hy behind), cons_tail (fed.le_bytes 8 x) (fed.le_bytes 8 y) hx hy behind)

pub written_once : (at : ℕ) (v w : List ℕ) → at + length v ≡ 16 → length w ≡ length v → ((i : ℕ) → get_or v i 0 < 2 ^ 64) → ((i : ℕ) → get_or w i 0 < 2 ^ 64)
    → hashed at v ≡ hashed at w → v ≡ w
unfolding hashed
written_once at [] [] n m p q e = refl
written_once at [] (y ∷ ys) n m p q e = absurd (omega (arith, m))
written_once at (x ∷ xs) [] n m p q e = absurd (omega (arith, m))
written_once at (x ∷ xs) (y ∷ ys) n m p q e =
    let both = word_once at x y (hashed (at + 1) xs) (hashed (at + 1) ys) (x == 0) (y == 0) refl refl (p 0) (q 0)
    (begins (at + 1) xs (omega (arith, n))) (begins (at + 1) ys (omega (arith, n, m))) e in
    let rest = written_once (at + 1) xs ys (omega (arith, n)) (omega (arith, m)) (λ i. p (suc i)) (λ i. q (suc i)) both.1 in
    ap (λ z. z ∷ xs) both.0 ∙ ap (λ zs. y ∷ zs) rest
