-- Each kind of step keeps a place clean, or ends in the first fault.
use Rattle.std.proofs.Common.{◌≡◌, ◌≢◌, ℕ, suc, ◌+◌, ◌<◌, ◌≤◌, ◌⊎◌, true, false, List, length, refl, sym, ap, subst, ◌∙◌, arith, add-one, add-zero}
use Rattle.std.specs.Prelude.{◌==◌, ◌&&◌, if◌then◌else◌, slice_index}
use Rattle.std.proofs.lemmas.Bool.Decides.{nat_tests}
use Rattle.cil_sexpr.specs.declared.fault.ReadCode.{ReadCode}
use Rattle.cil_sexpr.specs.declared.fault.ReadCode.TheVariants.{TooLong, Unclosed, StrayClose, OpenQuote, BadByte, TooDeep, OutsideList}
use Rattle.cil_sexpr.specs.Bytes.{left_bracket, right_bracket, double_quote, semicolon, newline, IsBlank, IsWordByte, IsBadByte}
use Rattle.cil_sexpr.specs.Faults.{Where, Plain, InString, InComment, where_next, where_at, is_plain, plain_count, depth_at, HasFault}
use Rattle.cil_sexpr.specs.Reading.{IsClean}
use Rattle.cil_sexpr.specs.Text.{IsString, deepest, longest_text}

-- one more byte
where_at-more : (text : List ℕ) (k : ℕ) → where_at text (k + 1) ≡ where_next (where_at text k) (slice_index text k)
unfolding where_at
where_at-more text k = rw add-one

plain_count-more : (byte : ℕ) (text : List ℕ) (k : ℕ)
    → plain_count byte text (k + 1) ≡ plain_count byte text k + (if is_plain (where_at text k) && (slice_index text k == byte) then 1 else 0)
unfolding plain_count
plain_count-more byte text k = rw add-one

-- what `==` answers
same : (a b : ℕ) → a ≡ b → (a == b) ≡ true
same a b e = grind (arith, nat_tests)

differs : (a b : ℕ) → a ≢ b → (a == b) ≡ false
differs a b n = grind (arith, nat_tests)

-- what a byte that is no quote and no semicolon leaves plain
next_plain : (b : ℕ) → b ≢ double_quote → b ≢ semicolon → where_next Plain b ≡ Plain
next_plain b q s = rw (differs b double_quote q, differs b semicolon s)

next_quote : where_next Plain double_quote ≡ InString
next_quote = refl

pub next_in_string : (b : ℕ) → b ≢ double_quote → b ≢ newline → where_next InString b ≡ InString
next_in_string b q n = rw (differs b double_quote q, differs b newline n)

pub next_in_comment : (b : ℕ) → b ≢ newline → where_next InComment b ≡ InComment
next_in_comment b n = rw (differs b newline n)

pub clean_start : (text : List ℕ) → length text ≤ longest_text → IsClean text Plain 0 0
unfolding where_at plain_count
clean_start text short = record {
  short = short;
  within = omega arith;
  lies = λ h. refl;
  open_lists = refl;
  first = λ code k h. omega arith;
}

-- a place behind one that has no fault
module _ {text : List ℕ} {w v : Where} {depth more at : ℕ} where
  onward : IsClean text w depth at → at < length text → ((code : ReadCode) → HasFault text code at → ⊥) → where_next w (slice_index text at) ≡ v
      → plain_count left_bracket text (at + 1) ≡ plain_count right_bracket text (at + 1) + more → IsClean text v more (at + 1)
  onward c inside sound next counts = record {
    short = c.short;
    within = omega arith;
    lies = λ h. where_at-more text at ∙ ap (λ u. where_next u (slice_index text at)) (c.lies inside) ∙ next;
    open_lists = counts;
    first = λ code k h. after code k h;
  }
    where
      after : (code : ReadCode) (k : ℕ) → HasFault text code k → at + 1 ≤ k
      after code k h =
          let there : at ≤ k = c.first code k h in
          let apart : at ≢ k = λ e. sound code (subst (λ j. HasFault text code j) (sym e) h) in
          omega arith

-- a place inside the text has no fault where none of its causes is there
module _ {text : List ℕ} {w : Where} {depth at : ℕ} where
  pub depth_here : IsClean text w depth at → depth_at text at ≡ depth
  depth_here c = let counts = c.open_lists in omega arith

  pub sound : IsClean text w depth at → at < length text → (slice_index text at ≡ right_bracket → depth ≡ 0 → ⊥)
      → (slice_index text at ≡ double_quote → ((end : ℕ) → IsString text at end → ⊥) → ⊥) → (IsBadByte (slice_index text at) → ⊥)
      → (slice_index text at ≡ left_bracket → depth ≡ deepest → ⊥)
      → (IsWordByte (slice_index text at) ⊎ (slice_index text at ≡ double_quote) → depth ≡ 0 → ⊥)
      → (code : ReadCode) → HasFault text code at → ⊥
  sound c inside close quote bad deep outside TooLong h = let short = c.short in omega arith
  sound c inside close quote bad deep outside Unclosed h = omega arith
  sound c inside close quote bad deep outside StrayClose h = close h.1 (sym (depth_here c) ∙ h.2)
  sound c inside close quote bad deep outside OpenQuote h = quote h.1 h.2
  sound c inside close quote bad deep outside BadByte h = bad h.1
  sound c inside close quote bad deep outside TooDeep h = deep h.1 (sym (depth_here c) ∙ h.2)
  sound c inside close quote bad deep outside OutsideList h = outside h.1 (sym (depth_here c) ∙ h.2)

  -- nor does one inside a string or a comment
  pub hidden : IsClean text w depth at → at < length text → (w ≡ Plain → ⊥) → (code : ReadCode) → HasFault text code at → ⊥
  hidden c inside n TooLong h = let short = c.short in omega arith
  hidden c inside n Unclosed h = omega arith
  hidden c inside n StrayClose h = n (sym (c.lies inside) ∙ h.0.plain)
  hidden c inside n OpenQuote h = n (sym (c.lies inside) ∙ h.0.plain)
  hidden c inside n BadByte h = n (sym (c.lies inside) ∙ h.0.plain)
  hidden c inside n TooDeep h = n (sym (c.lies inside) ∙ h.0.plain)
  hidden c inside n OutsideList h = n (sym (c.lies inside) ∙ h.0.plain)

  -- the counts behind a place that holds neither bracket, or hides it
  count_other : (byte : ℕ) → IsClean text w depth at → at < length text → slice_index text at ≢ byte → plain_count byte text (at + 1) ≡ plain_count byte text at
  count_other byte c inside n = rw (plain_count-more byte text at, c.lies inside, differs (slice_index text at) byte n) (by w)
    where
      by : (u : Where) → plain_count byte text at + (if is_plain u && false then 1 else 0) ≡ plain_count byte text at
      by Plain = add-zero _
      by InString = add-zero _
      by InComment = add-zero _

  count_hidden : (byte : ℕ) → IsClean text w depth at → at < length text → is_plain w ≡ false → plain_count byte text (at + 1) ≡ plain_count byte text at
  count_hidden byte c inside n = rw (plain_count-more byte text at, c.lies inside, n) (add-zero _)

  count_plain : (byte : ℕ) → IsClean text w depth at → at < length text → is_plain w ≡ true → slice_index text at ≡ byte → plain_count byte text (at + 1) ≡ plain_count byte text at + 1
  count_plain byte c inside p e = rw (plain_count-more byte text at, c.lies inside, p, same (slice_index text at) byte e) refl

  -- ---- one step of the reader

  -- over a byte that opens and closes nothing
  pub over : {v : Where} → IsClean text w depth at → at < length text → ((code : ReadCode) → HasFault text code at → ⊥)
      → slice_index text at ≢ left_bracket → slice_index text at ≢ right_bracket → where_next w (slice_index text at) ≡ v → IsClean text v depth (at + 1)
  over c inside no_fault l r next =
      let counts : plain_count left_bracket text (at + 1) ≡ plain_count right_bracket text (at + 1) + depth =
      rw (count_other left_bracket c inside l, count_other right_bracket c inside r) c.open_lists in
      onward c inside no_fault next counts

  -- over a byte of a string or a comment
  pub through : {v : Where} → IsClean text w depth at → at < length text → is_plain w ≡ false → where_next w (slice_index text at) ≡ v → IsClean text v depth (at + 1)
  through c inside h next =
      let counts : plain_count left_bracket text (at + 1) ≡ plain_count right_bracket text (at + 1) + depth =
      rw (count_hidden left_bracket c inside h, count_hidden right_bracket c inside h) c.open_lists in
      onward c inside (hidden c inside (λ e. let f : true ≡ false = ap is_plain (sym e) ∙ h in cc)) next counts

module _ {text : List ℕ} {depth at : ℕ} where
  pub clean_blank : IsClean text Plain depth at → at < length text → IsBlank (slice_index text at) → IsClean text Plain depth (at + 1)
  clean_blank c inside b =
      over c inside
      (sound c inside (λ e z. grind arith) (λ e z. grind arith) (λ z. z.0 b) (λ e z. grind arith) (λ e z. grind arith))
      (grind arith) (grind arith) (next_plain (slice_index text at) (grind arith) (grind arith))

  pub clean_word_byte : IsClean text Plain (suc depth) at → at < length text → IsWordByte (slice_index text at) → IsClean text Plain (suc depth) (at + 1)
  clean_word_byte c inside b =
      over c inside
      (sound c inside (λ e z. grind arith) (λ e z. grind arith) (λ z. grind arith) (λ e z. grind arith) (λ e z. grind arith))
      (grind arith) (grind arith) (next_plain (slice_index text at) (grind arith) (grind arith))

  pub clean_open : IsClean text Plain depth at → at < length text → slice_index text at ≡ left_bracket → depth < deepest → IsClean text Plain (depth + 1) (at + 1)
  clean_open c inside b room =
      let up : plain_count left_bracket text (at + 1) ≡ plain_count left_bracket text at + 1 = count_plain left_bracket c inside refl b in
      let level : plain_count right_bracket text (at + 1) ≡ plain_count right_bracket text at = count_other right_bracket c inside (grind arith) in
      let before = c.open_lists in
      onward c inside
      (sound c inside (λ e z. grind arith) (λ e z. grind arith) (λ z. grind arith) (λ e z. grind arith) (λ e z. grind arith))
      (next_plain (slice_index text at) (grind arith) (grind arith)) (omega arith)

  pub clean_close : IsClean text Plain (depth + 1) at → at < length text → slice_index text at ≡ right_bracket → IsClean text Plain depth (at + 1)
  clean_close c inside b =
      let up : plain_count right_bracket text (at + 1) ≡ plain_count right_bracket text at + 1 = count_plain right_bracket c inside refl b in
      let level : plain_count left_bracket text (at + 1) ≡ plain_count left_bracket text at = count_other left_bracket c inside (grind arith) in
      let before = c.open_lists in
      onward c inside
      (sound c inside (λ e z. grind arith) (λ e z. grind arith) (λ z. grind arith) (λ e z. grind arith) (λ e z. grind arith))
      (next_plain (slice_index text at) (grind arith) (grind arith)) (omega arith)
