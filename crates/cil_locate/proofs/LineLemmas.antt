-- Bytes that are told one by one.
use Rattle.std.proofs.Common.{◌≡◌, ◌+◌, ◌-◌, ◌<◌, ◌≤◌, ℕ, true, false, List, [], ◌∷◌, ◌++◌, length, map, take, get_or, length-append, replicate, refl, sym, ◌∙◌, ap, subst, arith}
use Rattle.std.specs.Prelude.{◌==◌, codes, decimal}
use Rattle.std.proofs.lemmas.List.{length-replicate, map-append, replicate-append-replicate, take_all, take_more}
use Rattle.cil_server.specs.Streams.{OutputState, Tells}
use Rattle.cil_server.proofs.StreamLemmas.{tells_both, tells_none}
use Rattle.cil_locate.specs.Lines.{blank, padded, space_text, visible, word_text}
use Rattle.cil_locate.proofs.ByteLemmas.{eqb_is, eqb_other}

pub no_turn : (w : OutputState) (byte : ℕ) → Tells w w (replicate 0 byte)
no_turn w byte = tells_none w

pub more_turns : (w v u : OutputState) (byte turn : ℕ) → Tells w v (replicate turn byte) → Tells v u (byte ∷ []) → Tells w u (replicate (turn + 1) byte)
more_turns w v u byte turn told more = subst (Tells w u) (one_more turn) (tells_both w v u (replicate turn byte) (byte ∷ []) told more)
  where
    one_more : (n : ℕ) → replicate n byte ++ byte ∷ [] ≡ replicate (n + 1) byte
    one_more n = replicate-append-replicate n 1 byte

pub all_turns : (w v : OutputState) (byte turn count : ℕ) → count ≤ turn → turn ≤ count → Tells w v (replicate turn byte) → Tells w v (replicate count byte)
all_turns w v byte turn count above below told = subst (λ n. Tells w v (replicate n byte)) {x = turn} {y = count} (omega (arith, above, below)) told

pub none_shown : (w : OutputState) (bytes : List ℕ) → Tells w w (map visible (take 0 bytes))
none_shown w bytes = tells_none w

pub more_shown : (w v u : OutputState) (bytes : List ℕ) (i shown : ℕ) → i < length bytes → shown ≡ visible (get_or bytes i 0) → Tells w v (map visible (take i bytes))
    → Tells v u (shown ∷ []) → Tells w u (map visible (take (i + 1) bytes))
more_shown w v u bytes i shown within is told more = subst (Tells w u) (sym one_more) (tells_both w v u (map visible (take i bytes)) (shown ∷ []) told more)
  where
    one_more : map visible (take (i + 1) bytes) ≡ map visible (take i bytes) ++ shown ∷ []
    one_more = ap (map visible) (take_more bytes i 0 within) ∙ map-append visible (take i bytes) (get_or bytes i 0 ∷ [])
        ∙ ap (λ x. map visible (take i bytes) ++ x ∷ []) (sym is)

pub all_shown : (w v : OutputState) (bytes : List ℕ) (i : ℕ) → length bytes ≤ i → Tells w v (map visible (take i bytes)) → Tells w v (map visible bytes)
all_shown w v bytes i over told = subst (λ z. Tells w v (map visible z)) (take_all i bytes over) told

-- a number, at the right of five places; and as many spaces
pub padded_told : (w v u : OutputState) (n : ℕ) (digits : List ℕ) (k : ℕ) → digits ≡ decimal n → k ≡ 5 - length digits → Tells w v (replicate k 32) → Tells v u digits
    → Tells w u (padded n)
padded_told w v u n digits k is count told more =
    subst (λ ds. Tells w u (replicate (5 - length ds) 32 ++ ds)) is
    (subst (λ m. Tells w u (replicate m 32 ++ digits)) count (tells_both w v u (replicate k 32) digits told more))

pub gutter_told : (w v : OutputState) (n : ℕ) (digits : List ℕ) (k : ℕ) → digits ≡ decimal n → k ≡ 5 - length digits
    → Tells w v (replicate (k + length digits) 32) → Tells w v (blank n)
gutter_told w v n digits k is count told = subst (λ m. Tells w v (replicate m 32)) (sized ∙ ap (λ ds. length (replicate (5 - length ds) 32 ++ ds)) is) told
  where
    sized : k + length digits ≡ length (replicate (5 - length digits) 32 ++ digits)
    sized = ap (λ m. m + length digits) count ∙ sym (length-append (replicate (5 - length digits) 32) digits
        ∙ ap (λ m. m + length digits) (length-replicate (5 - length digits) 32))

-- ---- what may be left out

module _ (bytes : List ℕ) where
  none_of : (length bytes == 0) ≡ true → length bytes ≡ 0
  none_of e = eqb_is (length bytes) 0 e

pub no_word : (word : List ℕ) → (length word == 0) ≡ true → word_text word ≡ []
no_word [] e = refl
no_word (b ∷ bs) e = absurd (omega (arith, none_of (b ∷ bs) e))

pub a_word : (word : List ℕ) → (length word == 0) ≡ false → word_text word ≡ codes ": " ++ map visible word
a_word [] e = absurd (eqb_other 0 0 e refl)
a_word (b ∷ bs) e = refl

pub no_space : (space : List ℕ) → (length space == 0) ≡ true → space_text space ≡ []
no_space [] e = refl
no_space (b ∷ bs) e = absurd (omega (arith, none_of (b ∷ bs) e))

pub a_space : (space : List ℕ) → (length space == 0) ≡ false → space_text space ≡ codes " (in " ++ space ++ codes ")"
a_space [] e = absurd (eqb_other 0 0 e refl)
a_space (b ∷ bs) e = refl
