-- The laws of the format: a set has one bundle, a bundle has one set.
use Rattle.std.proofs.Common.{◌≡◌, ℕ, ◌^◌, ◌<◌, List, [], ◌∷◌, ◌++◌, length, take, drop, refl, sym, ◌∙◌, ap, arith}
use Rattle.std.specs.Prelude.{Contains}
use Rattle.std.specs.List.{flat_map}
use Rattle.std.specs.Int.{w64, from_be_bytes}
use Rattle.std.proofs.lemmas.List.{append_assoc, append_cancel_left, take_at, drop_at}
use Rattle.std.proofs.lemmas.Nat.{from_be_bytes-to_be_bytes_8}
use Rattle.cil_base.specs.Lists.{contains_here, contains_later}
use Rattle.cil_modset.specs.Bundle.{magic, number, entry, bundle, IsBundle}
use Rattle.cil_modset.specs.Modules.{AreModules}

-- no text is too long for its size to be spelled
abbrev pub AreShort : List (List ℕ) → Type 0
AreShort texts = (text : List ℕ) → Contains texts text → length text < 2 ^ 64

pub modules_short : (modules : List (List ℕ)) → AreModules modules → AreShort modules
modules_short modules h text c = let short = (h.readable text c).tree.short in omega (arith, short)

-- numbers that are spelled alike are one
number_one : (m n : ℕ) → m < 2 ^ 64 → n < 2 ^ 64 → number m ≡ number n → m ≡ n
number_one m n p q e = sym (from_be_bytes-to_be_bytes_8 m p) ∙ ap (from_be_bytes w64) e ∙ from_be_bytes-to_be_bytes_8 n q

-- what stands behind two numbers that begin equal bytes
after_number : (m n : ℕ) (xs ys : List ℕ) → number m ++ xs ≡ number n ++ ys → (number m ≡ number n) × (xs ≡ ys)
after_number m n xs ys e = (
  sym (take_at (number m) xs 8 refl) ∙ ap (take 8) e ∙ take_at (number n) ys 8 refl,
  sym (drop_at (number m) xs 8 refl) ∙ ap (drop 8) e ∙ drop_at (number n) ys 8 refl,
)

-- a module is told by the bytes that begin with it, and so is what follows it
entry_one : (a b xs ys : List ℕ) → length a < 2 ^ 64 → length b < 2 ^ 64 → entry a ++ xs ≡ entry b ++ ys → (a ≡ b) × (xs ≡ ys)
entry_one a b xs ys p q e =
    let moved : number (length a) ++ (a ++ xs) ≡ number (length b) ++ (b ++ ys) =
    sym (append_assoc (number (length a)) a xs) ∙ e ∙ append_assoc (number (length b)) b ys in
    let behind = after_number (length a) (length b) (a ++ xs) (b ++ ys) moved in
    let size : length a ≡ length b = number_one (length a) (length b) p q behind.0 in (
      sym (take_at a xs (length a) refl) ∙ ap (take (length a)) behind.1 ∙ take_at b ys (length a) (sym size),
      sym (drop_at a xs (length a) refl) ∙ ap (drop (length a)) behind.1 ∙ drop_at b ys (length a) (sym size),
    )

entries_one : (xs ys : List (List ℕ)) → AreShort xs → AreShort ys → flat_map entry xs ≡ flat_map entry ys → xs ≡ ys
entries_one [] [] p q e = refl
entries_one [] (b ∷ ys) p q e = absurd cc
entries_one (a ∷ xs) [] p q e = absurd cc
entries_one (a ∷ xs) (b ∷ ys) p q e =
    let one = entry_one a b (flat_map entry xs) (flat_map entry ys) (p a (contains_here a xs)) (q b (contains_here b ys)) e in
    let rest = entries_one xs ys (λ t c. p t (contains_later t a xs c)) (λ t c. q t (contains_later t b ys c)) one.1 in
    ap (λ (w : List ℕ). w ∷ xs) one.0 ∙ ap (λ (w : List (List ℕ)). b ∷ w) rest

-- two sets with one bundle are one
pub bundle_one : (xs ys : List (List ℕ)) → AreModules xs → AreModules ys → bundle xs ≡ bundle ys → xs ≡ ys
bundle_one xs ys p q e =
    let behind = append_cancel_left magic (number (length xs) ++ flat_map entry xs) (number (length ys) ++ flat_map entry ys) e in
    entries_one xs ys (modules_short xs p) (modules_short ys q)
    (after_number (length xs) (length ys) (flat_map entry xs) (flat_map entry ys) behind).1

pub set_of_bundle : (bytes : List ℕ) (xs ys : List (List ℕ)) → IsBundle bytes xs → IsBundle bytes ys → xs ≡ ys
set_of_bundle bytes xs ys p q = bundle_one xs ys p.readable q.readable (sym p.spelled ∙ q.spelled)
