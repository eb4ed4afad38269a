-- The buffer of the input, and what is taken from it.
use Rattle.std.specs.Prelude.{Option, None, Some, IfSome, IsSomeAnd, min, slice_range}
use Rattle.std.specs.declared.vec.Vec.{Vec}
use Rattle.std.specs.declared.alloc.Global.{Global}
use Rattle.std.specs.Io.KnownBytes.{Consumes, IsAtEnd, Keeps, prepend_known}
use Rattle.std.proofs.Common.{◌≡◌, ℕ, ◌+◌, ◌-◌, ◌<◌, ◌≤◌, List, [], ◌∷◌, ◌++◌, length, take, drop, set, refl, sym, ◌∙◌, ap, subst, arith, inl, inr}
use Rattle.std.proofs.lemmas.List.{append_assoc, append-nil, drop-drop, drop-take, length-append, length-drop, length-take, length-take-le, take-append-drop, take_more_set}
use Rattle.std.proofs.Math.Seq.{drop-append_seam}
use Rattle.std.proofs.lemmas.List.Elements.{Contains-push_cases}
use Rattle.cil_base.specs.Lists.{contains_none}
use Rattle.cil_server.specs.Streams.{InputState, OutputState, unread}
use Rattle.cil_server.specs.Taken.{Moves, TakesPlain, TakesSome}
use Rattle.cil_server.specs.declared.streams.Broken.{Broken}
use Rattle.cil_server.proofs.StreamLemmas.{consumes_both, consumes_kept, consumes_none, keeps_consumes, keeps_same, tells_after}

pub skipped : (xs : List ℕ) (a k b : ℕ) → a + k ≤ b → slice_range xs (a + k) b ≡ drop k (slice_range xs a b)
skipped xs a k b within =
    let parts : k + (b - (a + k)) ≡ b - a = omega (arith, within) in
    ap (λ z. take (b - (a + k)) z) (sym (drop-drop k a xs)) ∙ sym (drop-take k (b - (a + k)) (drop a xs)) ∙ ap (λ n. drop k (take n (drop a xs))) parts

at_end_unread : (b : Option (List ℕ)) → IsAtEnd b → IsAtEnd (prepend_known [] b)
at_end_unread None h = h
at_end_unread (Some xs) h = h

front_range : (xs : List ℕ) (n : ℕ) → slice_range xs 0 n ≡ take n xs
front_range xs n = let all : n - 0 ≡ n = omega arith in ap (λ k. take k xs) all

pub filled_none : (buffer : List ℕ) (n : ℕ) (b : Option (List ℕ)) → n ≡ 0 → IsAtEnd b → IsAtEnd (prepend_known (slice_range buffer 0 n) b)
filled_none buffer n b e end = subst (λ k. IsAtEnd (prepend_known (slice_range buffer 0 k) b)) (sym e) (at_end_unread b end)

pub skip_within : (xs ys : List ℕ) (a b k : ℕ) → slice_range xs a b ≡ ys → a ≤ b → b ≤ length xs → k ≤ length ys → a + k ≤ b
skip_within xs ys a b k e up within few =
    let left : b - a ≤ length (drop a xs) = let l = length-drop a xs in omega (arith, l, up, within) in
    let count : length ys ≡ b - a = ap length (sym e) ∙ length-take-le (b - a) (drop a xs) left in
    omega (arith, count, few, up)

-- ---- lines

pub line_none : (a : Option (List ℕ)) → TakesPlain a a []
line_none a = record { consumed = consumes_none a a (keeps_same a); plain = λ c. contains_none 10 c }

pub line_more : (a b c : Option (List ℕ)) (line : List ℕ) (i byte : ℕ) → i < length line → TakesPlain a b (take i line) → (byte ≡ 10 → ⊥) → Consumes b c (byte ∷ [])
    → TakesPlain a c (take (i + 1) (set line i byte))
line_more a b c line i byte within t other f =
    let more = take_more_set line i byte within in
    subst (TakesPlain a c) (sym more) (record {
      consumed = consumes_both a b c (take i line) (byte ∷ []) t.consumed f;
      plain = λ has. elim (Contains-push_cases (take i line) byte 10 has) [ inl h ↦ t.plain h | inr e ↦ other e ];
    })

pub line_whole : (a b c : Option (List ℕ)) (xs : List ℕ) (x : ℕ) → TakesPlain a b xs → x ≡ 10 → Consumes b c (x ∷ []) → Consumes a c (xs ++ 10 ∷ [])
line_whole a b c xs x t e f = consumes_both a b c xs (10 ∷ []) t.consumed (subst (λ z. Consumes b c (z ∷ [])) e f)

pub line_ended : (a b c : Option (List ℕ)) (xs : List ℕ) → TakesPlain a b xs → Consumes b c [] → TakesPlain a c xs
line_ended a b c xs t f = record { consumed = subst (Consumes a c) (append-nil xs) (consumes_both a b c xs [] t.consumed f); plain = t.plain }

-- ---- bodies

-- the bytes of a body so far
pub record IsBodySoFar (old new : Option (List ℕ)) (body : Option (Vec ℕ Global)) (count left : ℕ) : Type 0 where
  pub bytes : List ℕ
  pub consumed : Consumes old new bytes
  pub len : length bytes + left ≡ count
  pub held : IfSome body (λ v. v.items ≡ bytes)

pub body_none : (a : Option (List ℕ)) (body : Option (Vec ℕ Global)) (count : ℕ) → IfSome body (λ v. v.items ≡ []) → IsBodySoFar a a body count count
body_none a body count h = record { bytes = []; consumed = consumes_none a a (keeps_same a); len = omega arith; held = h }

some_more : (body next : Option (Vec ℕ Global)) (bytes part : List ℕ) → IfSome body (λ v. v.items ≡ bytes)
    → IfSome next (λ v. IsSomeAnd body (λ w. v.items ≡ w.items ++ part)) → IfSome next (λ v. v.items ≡ bytes ++ part)
some_more body None bytes part h more = more
some_more (Some w) (Some v) bytes part h more = more ∙ ap (λ z. z ++ part) h
some_more None (Some v) bytes part h more = absurd more

pub body_more : (a b c d : Option (List ℕ)) (body next : Option (Vec ℕ Global)) (part : List ℕ) (count left : ℕ) → IsBodySoFar a b body count left → Keeps b c
    → Consumes c d part → length part ≤ left → IfSome next (λ v. IsSomeAnd body (λ w. v.items ≡ w.items ++ part)) → IsBodySoFar a d next count (left - length part)
body_more a b c d body next part count left s k f few more =
    let total = length-append s.bytes part in
    record {
      bytes = s.bytes ++ part;
      consumed = consumes_both a b d s.bytes part s.consumed (keeps_consumes b c d part k f);
      len = all (length s.bytes) (length part) (length (s.bytes ++ part)) total s.len few;
      held = some_more body next s.bytes part s.held more;
    }
  where
    all : (m n k : ℕ) → k ≡ m + n → m + left ≡ count → n ≤ left → k + (left - n) ≡ count
    all m n k e f h = omega (arith, e, f, h)

-- the first bytes of the buffer are read
pub skip_part : (buffer slice next : List ℕ) (m : ℕ) (r : Option (List ℕ)) → slice ≡ buffer → next ≡ drop (length (take m slice)) buffer
    → Consumes (prepend_known buffer r) (prepend_known next r) (take m slice)
skip_part buffer slice next m r e f =
    let same : next ≡ drop m slice =
    f ∙ ap (drop (length (take m slice))) (sym e ∙ sym (take-append-drop m slice)) ∙ drop-append_seam (take m slice) (drop m slice) in
    subst (λ z. Consumes (prepend_known z r) (prepend_known next r) (take m slice)) e (subst (λ z. Consumes (prepend_known slice r) (prepend_known z r) (take m slice)) (sym same) (split r))
  where
    split : (o : Option (List ℕ)) → Consumes (prepend_known slice o) (prepend_known (drop m slice) o) (take m slice)
    split None = tt
    split (Some rest) = ap (λ z. z ++ rest) (sym (take-append-drop m slice)) ∙ append_assoc (take m slice) (drop m slice) rest

pub skip_state : (i j : InputState) (slice : List ℕ) (m : ℕ) → slice ≡ i.buffered → j.buffered ≡ drop (length (take m slice)) i.buffered → j.left ≡ i.left
    → Consumes (unread i) (unread j) (take m slice)
skip_state i j slice m e f same =
    subst (λ o. Consumes (unread i) (prepend_known j.buffered o) (take m slice)) (sym same) (skip_part i.buffered slice j.buffered m i.left e f)

pub part_few : (slice : List ℕ) (m left len : ℕ) → m ≡ min len left → length (take m slice) ≤ left
part_few slice m left len e = let l = length-take m slice in omega (arith, l, e)

pub body_part_at : (a b c : Option (List ℕ)) (body : Option (Vec ℕ Global)) (count left : ℕ) → IsBodySoFar a b body count left → 0 < left → Keeps b c
    → (n : ℕ) × (n < count) × TakesSome a c n
body_part_at a b c body count left s some k =
    (length s.bytes, omega (arith, s.len, some), record { bytes = s.bytes; consumed = consumes_kept a b c s.bytes s.consumed k; len = refl })

pub body_cut_at : (a b c : Option (List ℕ)) (body : Option (Vec ℕ Global)) (count left : ℕ) → IsBodySoFar a b body count left → 0 < left → Keeps b c → IsAtEnd c
    → (n : ℕ) × (n < count) × TakesSome a c n × IsAtEnd c
body_cut_at a b c body count left s some k end =
    let part = body_part_at a b c body count left s some k in (part.0, part.1, part.2, end)

-- ---- both streams

pub moves_both : (i : InputState) (o : OutputState) (i' : InputState) (o' : OutputState) (j : InputState) (p : OutputState) (failed : Option Broken) → Moves i o i' o' None
    → Moves i' o' j p failed → Moves i o j p failed
moves_both i o i' o' j p failed f g = record {
  told = tells_after o o' p [] f.told g.told;
  reader = g.reader ∙ f.reader;
  failures = all _ _ _ _ f.failures g.failures;
  is_left = g.is_left;
}
  where
    all : (a b c n : ℕ) → b ≡ a + 0 → c ≡ b + n → c ≡ a + n
    all a b c n e h = omega (arith, e, h)

-- bytes of the buffer are read
pub moves_skipped : (i : InputState) (o : OutputState) (i' : InputState) (o' : OutputState) (j : InputState) → Moves i o i' o' None → j.failures ≡ i'.failures → j.reader ≡ i'.reader
    → Moves i o j o' None
moves_skipped i o i' o' j f same kept = record { told = f.told; reader = kept ∙ f.reader; failures = same ∙ f.failures; is_left = f.is_left }
