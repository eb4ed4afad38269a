-- A whole word, string or comment keeps a place clean.
use Rattle.std.proofs.Common.{◌≡◌, ◌≢◌, ℕ, zero, suc, ◌+◌, ◌-◌, ◌<◌, ◌≤◌, List, length, refl, sym, ap, subst, inl, inr, arith}
use Rattle.std.specs.Prelude.{slice_index}
use Rattle.std.proofs.lemmas.Bool.Decides.{eqb_tells}
use Rattle.cil_sexpr.specs.declared.fault.ReadCode.{ReadCode}
use Rattle.cil_sexpr.specs.Bytes.{double_quote, semicolon, newline, IsWordByte, HasByte}
use Rattle.cil_sexpr.specs.Faults.{Where, Plain, InString, InComment, where_next, HasFault}
use Rattle.cil_sexpr.specs.Reading.{IsClean}
use Rattle.cil_sexpr.specs.Text.{IsWord, IsString, IsComment}
use Rattle.cil_sexpr.proofs.Clean.{sound, over, through, clean_word_byte, next_in_string, next_in_comment}

module _ (text : List ℕ) where
  -- bytes of a word, counted down
  word_run : (depth n at end : ℕ) → at + n ≡ end → IsClean text Plain (suc depth) at → end ≤ length text
      → ((k : ℕ) → at ≤ k → k < end → IsWordByte (slice_index text k)) → IsClean text Plain (suc depth) end
  word_run depth zero at end e c within inside = let same : at ≡ end = omega arith in subst (IsClean text Plain (suc depth)) same c
  word_run depth (suc n) at end e c within inside =
      word_run depth n (at + 1) end (omega arith) (clean_word_byte c (omega arith) (inside at (omega arith) (omega arith))) within
      (λ k above below. inside k (omega arith) below)

  pub clean_word : (depth at end : ℕ) → 0 < depth → IsClean text Plain depth at → IsWord text at end → IsClean text Plain depth end
  clean_word zero at end deep c w = absurd (omega arith)
  clean_word (suc depth) at end deep c w = let some = w.some in word_run depth (end - at) at end (omega arith) c w.within w.inside

  -- bytes of a string up to its closing quote
  string_run : (depth n at last : ℕ) → at + n ≡ last → IsClean text InString depth at → HasByte text last double_quote
      → ((k : ℕ) → at ≤ k → k < last → (slice_index text k ≢ double_quote) × (slice_index text k ≢ newline)) → IsClean text Plain depth (last + 1)
  string_run depth zero at last e c quote inside =
      let same : at ≡ last = omega arith in
      let here : HasByte text at double_quote = subst (λ k. HasByte text k double_quote) (sym same) quote in
      subst (λ k. IsClean text Plain depth (k + 1)) same (through c here.0 refl (ap (where_next InString) here.1))
  string_run depth (suc n) at last e c quote inside =
      let below : at < length text = let within = quote.0 in omega arith in
      let other = inside at (omega arith) (omega arith) in
      string_run depth n (at + 1) last (omega arith) (through c below refl (next_in_string (slice_index text at) other.0 other.1)) quote
      (λ k above before. inside k (omega arith) before)

  -- a quote that begins a string is no fault inside a list
  quote_sound : (depth at end : ℕ) → 0 < depth → IsClean text Plain depth at → IsString text at end → (code : ReadCode) → HasFault text code at → ⊥
  quote_sound depth at end deep c s =
      let opens = s.opens in
      sound c opens.0 (λ e z. omega arith) (λ e none. none end s)
      (λ z. elim z.1 [ inl low ↦ omega arith | inr high ↦ omega arith ]) (λ e z. omega arith) (λ e z. omega arith)

  pub clean_string : (depth at end : ℕ) → 0 < depth → IsClean text Plain depth at → IsString text at end → IsClean text Plain depth end
  clean_string depth at end deep c s =
      let opens = s.opens in
      let after = s.after in
      let begun : IsClean text InString depth (at + 1) = over c opens.0 (quote_sound depth at end deep c s)
      (λ e. omega arith) (λ e. omega arith) (ap (where_next Plain) opens.1) in
      subst (IsClean text Plain depth) (sym s.ends)
      (string_run depth (s.last - (at + 1)) (at + 1) s.last (omega arith) begun s.closes (λ k above before. s.inside k (omega arith) before))

  -- at the end of the text nothing is left to lie in anything
  clean_at_end : {w v : Where} (depth at : ℕ) → at ≡ length text → IsClean text w depth at → IsClean text v depth at
  clean_at_end depth at e c = record {
    short = c.short;
    within = c.within;
    lies = λ h. absurd (omega arith);
    open_lists = c.open_lists;
    first = c.first;
  }

  -- bytes of a comment
  comment_run : (depth n at end : ℕ) → at + n ≡ end → IsClean text InComment depth at → end ≤ length text
      → ((k : ℕ) → at ≤ k → k + 1 < end → slice_index text k ≢ newline) → ((k : ℕ) → k + 1 ≡ end → end < length text → slice_index text k ≡ newline)
      → (at ≡ end → end ≡ length text) → IsClean text Plain depth end
  comment_run depth zero at end e c within inside ends none =
      let same : at ≡ end = omega arith in clean_at_end depth end (none same) (subst (IsClean text InComment depth) same c)
  comment_run depth (suc zero) at end e c within inside ends none =
      let below : at < length text = omega arith in
      let behind : at + 1 ≡ end = omega arith in
      subst (IsClean text Plain depth) behind (elim (eqb_tells (slice_index text at) newline) [
        | inl is ↦ through c below refl (ap (where_next InComment) is.1)
        | inr other ↦ clean_at_end depth (at + 1) (last_of at end below behind within (λ h. other.1 (ends at behind h))) (through c below refl (next_in_comment (slice_index text at) other.1))
      ])
    where
      last_of : (at end : ℕ) → at < length text → at + 1 ≡ end → end ≤ length text → (end < length text → ⊥) → at + 1 ≡ length text
      last_of at end below behind within not_below = omega arith
  comment_run depth (suc (suc n)) at end e c within inside ends none =
      comment_run depth (suc n) (at + 1) end (omega arith)
      (through c (omega arith) refl (next_in_comment (slice_index text at) (inside at (omega arith) (omega arith)))) within
      (λ k above below. inside k (omega arith) below) ends (λ h. absurd (omega arith))

  pub clean_comment : (depth at end : ℕ) → IsClean text Plain depth at → IsComment text at end → IsClean text Plain depth end
  clean_comment depth at end c m =
      let opens = m.opens in
      let some = m.some in
      let begun : IsClean text InComment depth (at + 1) = over c opens.0 (semicolon_sound depth at c opens)
      (λ e. omega arith) (λ e. omega arith) (ap (where_next Plain) opens.1) in
      comment_run depth (end - (at + 1)) (at + 1) end (omega arith) begun m.within (λ k above below. m.inside k (omega arith) below) m.ends
      (λ h. reaches at end opens h m.within (m.ends at))
    where
      semicolon_sound : (depth at : ℕ) → IsClean text Plain depth at → HasByte text at semicolon → (code : ReadCode) → HasFault text code at → ⊥
      semicolon_sound depth at c opens =
          sound c opens.0 (λ e z. omega arith) (λ e none. omega arith)
          (λ z. elim z.1 [ inl low ↦ omega arith | inr high ↦ omega arith ]) (λ e z. omega arith)
          (λ e z. elim e [ inl w ↦ omega arith | inr q ↦ omega arith ])

      reaches : (at end : ℕ) → HasByte text at semicolon → at + 1 ≡ end → end ≤ length text
          → (at + 1 ≡ end → end < length text → slice_index text at ≡ newline) → end ≡ length text
      reaches at end opens h within ends =
          let not_below : end < length text → ⊥ = λ below. let e = ends h below in omega arith in omega arith
