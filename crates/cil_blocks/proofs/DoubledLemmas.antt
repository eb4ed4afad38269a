-- Blocks and macros that are written twice.
use Rattle.std.proofs.Common.{◌≡◌, ℕ, ◌+◌, ◌<◌, ◌≤◌, Bool, true, false, List, length, get_or, take, refl, sym, ◌∙◌, subst, inl, inr}
use Rattle.std.specs.Prelude.{◌↔◌, Contains, IfOk, Result, Ok, Err}
use Rattle.std.specs.List.Sorted.{IsPermutation}
use Rattle.std.proofs.lemmas.List.{take_all}
use Rattle.std.proofs.lemmas.List.Sorted.{Contains-permutation, IsPermutation-sym}
use Rattle.cil_syntax.specs.declared.program.Statement.{Statement}
use Rattle.cil_syntax.specs.Program.{IsNested, program_of}
use Rattle.cil_syntax.specs.Written.{Written}
use Rattle.cil_blocks.specs.declared.written.WrittenSpaces.{WrittenSpaces}
use Rattle.cil_blocks.specs.Doubled.{AreAlike, AreOthers, AreThose, AreWrittenTwice, HasOther, IsMatched, is_named_at}
use Rattle.cil_blocks.specs.WrittenSpaces.{AreWritten, numbered_name}
use Rattle.cil_blocks.proofs.Kept.{in_more}
use Rattle.cil_blocks.proofs.WrittenLemmas.{full_same, number_same}

-- ---- another one in a list

-- the first so many are all this number
abbrev pub AreAll : ℕ → List ℕ → Type 0
AreAll number xs = (x : ℕ) → Contains xs x → x ≡ number

pub none_other : (xs : List ℕ) (k number : ℕ) → k < length xs → get_or xs k 0 ≡ number → AreAll number (take k xs) → AreAll number (take (k + 1) xs)
none_other xs k number h is so x c = elim ((in_more xs k (get_or xs k 0) 0 x h refl).0 c) [ inl d ↦ so x d | inr same ↦ same ∙ is ]

pub has_none : (xs : List ℕ) (k number : ℕ) → length xs ≤ k → AreAll number (take k xs) → HasOther xs number ↔ (false ≡ true)
has_none xs k number over so =
    ((λ o. absurd (o.2 (so o.0 (subst (λ ys. Contains ys o.0) (sym (take_all k xs over)) o.1)))), (λ e. absurd (let f : false ≡ true = e in cc)))

-- ---- numbers of one key

module _ {K : Type 0} (key : ℕ → K) (others : List ℕ) where
  -- another one of its key is among those of its key
  abbrev pub HasMatch : ℕ → Type 0
  HasMatch v = (w : ℕ) × Contains others w × (key w ≡ key v) × (w ≡ v → ⊥)

  pub match_found : (v : ℕ) (alike : List ℕ) → AreAlike key others v alike → HasOther alike v → HasMatch v
  match_found v alike is o = let f = (is o.0).0 o.1 in (o.0, f.0, f.1, o.2)

  pub match_there : (v : ℕ) (alike : List ℕ) → AreAlike key others v alike → HasMatch v → HasOther alike v
  match_there v alike is m = (m.0, (is m.0).1 (m.1, m.2), m.3)

  pub matched_so : (v : ℕ) (alike : List ℕ) (b : Bool) → AreAlike key others v alike → HasOther alike v ↔ (b ≡ true) → (b ≡ true → HasMatch v) × (HasMatch v → b ≡ true)
  matched_so v alike b is so = ((λ e. match_found v alike is (so.1 e)), (λ m. so.0 (match_there v alike is m)))

  pub are_matched : (ones found : List ℕ) → AreThose (λ v. Contains ones v × HasMatch v) found → (i : ℕ) → Contains found i ↔ IsMatched key ones others i
  are_matched ones found so i = (
    (λ c. let p = (so i).0 c in record { is_one = p.0; other = p.1.0; is_other = p.1.1; one_key = p.1.2; differ = p.1.3 }),
    (λ m. (so i).1 (m.is_one, (m.other, m.is_other, m.one_key, m.differ))),
  )

module _ (ss : List Statement) (nested : IsNested ss) (spaces : WrittenSpaces) (are : AreWritten (program_of ss) spaces) where
  abbrev ws : List Written
  ws = program_of ss

  pub are_written : (n : ℕ) (named sorted found : List ℕ) → AreThose (λ i. (i < n) × (is_named_at ws i ≡ true)) named → IsPermutation named sorted
      → AreOthers (numbered_name ss spaces.numbers) sorted found → AreWrittenTwice ws n found
  are_written n named sorted found so moved is i = (
    (λ c. let m = (is i).0 c in
        let one = (so i).0 (back i m.is_one) in
        let other = (so m.other).0 (back m.other m.is_other) in
        record { within = one.0; is_one = one.1; other = m.other; other_within = other.0; is_other = other.1; one_name = full_same ss nested spaces are m.other i m.one_key; differ = m.differ }),
    (λ w. (is i).1 (record {
      is_one = there i (w.within, w.is_one);
      other = w.other;
      is_other = there w.other (w.other_within, w.is_other);
      one_key = number_same ss nested spaces are w.other i w.one_name;
      differ = w.differ;
    })),
  ) where
    back : (x : ℕ) → Contains sorted x → Contains named x
    back x c = Contains-permutation sorted named x (IsPermutation-sym named sorted moved) c

    there : (x : ℕ) → (x < n) × (is_named_at ws x ≡ true) → Contains sorted x
    there x p = Contains-permutation named sorted x moved ((so x).1 p)

pub if_ok : {X E : Type 0} (P Q : X → Type 0) (r : Result X E) → ((x : X) → P x → Q x) → IfOk r P → IfOk r Q
if_ok P Q (Ok x) onward p = onward x p
if_ok P Q (Err e) onward p = p
