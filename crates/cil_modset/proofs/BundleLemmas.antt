-- Modules at places of the bytes, and the bytes that spell them.
use Rattle.std.proofs.Common.{◌≡◌, ℕ, ◌+◌, ◌^◌, ◌<◌, ◌≤◌, List, [], ◌∷◌, ◌++◌, length, take, drop, refl, sym, ◌∙◌, ap, subst, inl, inr, arith}
use Rattle.std.specs.List.{flat_map}
use Rattle.std.specs.Int.{w64, from_be_bytes}
use Rattle.std.proofs.lemmas.Bool.{cases_lt}
use Rattle.std.proofs.lemmas.List.{append_assoc, append-nil, take_all, take-append-drop, drop_all, drop-drop, ext_get_or, length_push, length-take, length-drop, get_or-take, get_or-drop, get_or_past}
use Rattle.std.proofs.lemmas.List.Elements.{Contains-push_cases}
use Rattle.std.proofs.lemmas.Nat.{be_bytes_8}
use Rattle.cil_sexpr.specs.Text.{IsReadable}
use Rattle.cil_modset.specs.Bundle.{AreBytes, magic, number, entry, bundle, IsBundle}
use Rattle.cil_modset.specs.Faults.{number_at, header_size, promised, HasHeader, HasModule, HasModules, IsRightUpTo, AllBelow}
use Rattle.cil_modset.proofs.RisingLemmas.{rising_push}

-- what was written when all is written
pub written_all : (texts : List (List ℕ)) (bytes start m n : List ℕ) (i : ℕ) → bytes ≡ start ++ flat_map entry (take i texts)
    → start ≡ m ++ n → m ≡ magic → n ≡ number (length texts) → length texts ≤ i → bytes ≡ bundle texts
written_all texts bytes start m n i e s m_is n_is le =
    e
    ∙ ap (λ (w : List (List ℕ)). start ++ flat_map entry w) (take_all i texts le)
    ∙ ap (λ (w : List ℕ). w ++ flat_map entry texts)
    (s ∙ ap (λ (w : List ℕ). w ++ n) m_is ∙ ap (λ (w : List ℕ). magic ++ w) n_is)
    ∙ append_assoc magic (number (length texts)) (flat_map entry texts)

-- ---- bytes and numbers

IsBytes-drop : (n : ℕ) (bytes : List ℕ) → AreBytes bytes → AreBytes (drop n bytes)
IsBytes-drop n bytes h i = rw get_or-drop (h (n + i))

IsBytes-take : (n : ℕ) (bytes : List ℕ) → AreBytes bytes → AreBytes (take n bytes)
IsBytes-take n bytes h i =
    elim (cases_lt i n) [
      | inl lt ↦ rw (get_or-take n bytes i 0 lt) (h i)
      | inr le ↦ rw (get_or_past (take n bytes) i 0 (omega (arith, length-take n bytes))) (omega arith)
    ]

-- a number in eight bytes is told by these alone
pub first_eight : (xs : List ℕ) → from_be_bytes w64 (take 8 xs) ≡ from_be_bytes w64 xs
first_eight [] = refl
first_eight (a ∷ []) = refl
first_eight (a ∷ b ∷ []) = refl
first_eight (a ∷ b ∷ c ∷ []) = refl
first_eight (a ∷ b ∷ c ∷ d ∷ []) = refl
first_eight (a ∷ b ∷ c ∷ d ∷ e ∷ []) = refl
first_eight (a ∷ b ∷ c ∷ d ∷ e ∷ f ∷ []) = refl
first_eight (a ∷ b ∷ c ∷ d ∷ e ∷ f ∷ g ∷ []) = refl
first_eight (a ∷ b ∷ c ∷ d ∷ e ∷ f ∷ g ∷ h ∷ xs) = refl

pub number_below : (bytes : List ℕ) (at : ℕ) → AreBytes bytes → number_at bytes at < 2 ^ 64
number_below bytes at h =
    let f = IsBytes-drop at bytes h in omega (arith, f 0, f 1, f 2, f 3, f 4, f 5, f 6, f 7)

-- eight bytes from a place on are those of the number there
number_spelled : (bytes : List ℕ) (at : ℕ) → AreBytes bytes → at + 8 ≤ length bytes → drop at bytes ≡ number (number_at bytes at) ++ drop (at + 8) bytes
number_spelled bytes at h le =
    let front : number (number_at bytes at) ≡ take 8 (drop at bytes) =
    be_bytes_8 (take 8 (drop at bytes)) (number_at bytes at) (omega (arith, length-take 8 (drop at bytes), length-drop at bytes))
    (IsBytes-take 8 (drop at bytes) (IsBytes-drop at bytes h)) (sym (first_eight (drop at bytes))) in
    sym (take-append-drop 8 (drop at bytes))
    ∙ ap (λ (w : List ℕ). w ++ drop 8 (drop at bytes)) (sym front)
    ∙ ap (λ (w : List ℕ). number (number_at bytes at) ++ w) (drop-drop 8 at bytes)

-- ---- from places to the bytes

module_spelled : (bytes text : List ℕ) (at : ℕ) → AreBytes bytes → HasModule bytes at text → drop at bytes ≡ entry text ++ drop (at + 8 + length text) bytes
module_spelled bytes text at h m =
    let split : drop (at + 8) bytes ≡ text ++ drop (at + 8 + length text) bytes =
    sym (take-append-drop (length text) (drop (at + 8) bytes))
    ∙ ap (λ (w : List ℕ). w ++ drop (length text) (drop (at + 8) bytes)) (sym m.text_is)
    ∙ ap (λ (w : List ℕ). text ++ w) (drop-drop (length text) (at + 8) bytes) in
    let within : at + 8 ≤ length bytes = omega (arith, m.within) in
    number_spelled bytes at h within
    ∙ ap (λ (n : ℕ). number n ++ drop (at + 8) bytes) m.size
    ∙ ap (λ (w : List ℕ). number (length text) ++ w) split
    ∙ sym (append_assoc (number (length text)) text (drop (at + 8 + length text) bytes))

modules_spelled : (bytes : List ℕ) (texts : List (List ℕ)) (from to : ℕ) → AreBytes bytes → HasModules bytes from texts to
    → drop from bytes ≡ flat_map entry texts ++ drop to bytes
modules_spelled bytes [] from to h e = ap (λ (k : ℕ). drop k bytes) e
modules_spelled bytes (text ∷ texts) from to h m =
    module_spelled bytes text from h m.0
    ∙ ap (λ (w : List ℕ). entry text ++ w) (modules_spelled bytes texts (from + 8 + length text) to h m.1)
    ∙ sym (append_assoc (entry text) (flat_map entry texts) (drop to bytes))

magic_spelled : (bytes : List ℕ) → HasHeader bytes → take 5 bytes ≡ magic
magic_spelled bytes header =
    let size : length (take 5 bytes) ≡ 5 = omega (arith, length-take 5 bytes, header.within) in
    ext_get_or 0 (take 5 bytes) magic size (λ i lt.
    let less : i < 5 = omega (arith, size) in get_or-take 5 bytes i 0 less ∙ header.magic_is i less (omega (arith, header.within)))

header_spelled : (bytes : List ℕ) → AreBytes bytes → HasHeader bytes → bytes ≡ magic ++ (number (promised bytes) ++ drop 13 bytes)
header_spelled bytes h header =
    sym (take-append-drop 5 bytes)
    ∙ ap (λ (w : List ℕ). w ++ drop 5 bytes) (magic_spelled bytes header)
    ∙ ap (λ (w : List ℕ). magic ++ w) (number_spelled bytes 5 h (omega (arith, header.within)))

-- all is right up to the end of the bytes, and no module is missing: they are a bundle
pub right_bundle : (bytes : List ℕ) (modules : List (List ℕ)) (at : ℕ) → AreBytes bytes → IsRightUpTo bytes modules at → length modules ≡ promised bytes
    → at ≡ length bytes → IsBundle bytes modules
right_bundle bytes modules at h right all end =
    let rest : drop 13 bytes ≡ flat_map entry modules =
    modules_spelled bytes modules 13 at h right.stand
    ∙ ap (λ (w : List ℕ). flat_map entry modules ++ w) (drop_all at bytes (omega (arith, end)))
    ∙ append-nil (flat_map entry modules) in
    record {
      readable = right.readable;
      counted = omega (arith, number_below bytes 5 h, all);
      spelled = header_spelled bytes h right.header
          ∙ ap (λ (n : ℕ). magic ++ (number n ++ drop 13 bytes)) (sym all)
          ∙ ap (λ (w : List ℕ). magic ++ (number (length modules) ++ w)) rest;
    }

-- ---- one more module

pub modules_push : (bytes text : List ℕ) (texts : List (List ℕ)) (from to : ℕ) → HasModules bytes from texts to → HasModule bytes to text
    → HasModules bytes from (texts ++ text ∷ []) (to + 8 + length text)
modules_push bytes text [] from to e m =
    (subst (λ (k : ℕ). HasModule bytes k text) (sym e) m, ap (λ (k : ℕ). k + 8 + length text) e)
modules_push bytes text (t ∷ texts) from to h m = (h.0, modules_push bytes text texts (from + 8 + length t) to h.1 m)

pub right_on : (bytes text : List ℕ) (modules : List (List ℕ)) (at : ℕ) → IsRightUpTo bytes modules at → length modules < promised bytes
    → HasModule bytes at text → AllBelow modules text → IsReadable text → IsRightUpTo bytes (modules ++ text ∷ []) (at + 8 + length text)
right_on bytes text modules at right more m above reads = record {
  header = right.header;
  stand = modules_push bytes text modules header_size at right.stand m;
  readable = record {
    rising = rising_push modules text right.readable.rising above;
    readable = λ t c. elim (Contains-push_cases modules text t c) [
      | inl d ↦ right.readable.readable t d
      | inr e ↦ subst IsReadable e reads
    ];
  };
  within = m.within;
  promise = omega (arith, length_push modules text, more);
}
