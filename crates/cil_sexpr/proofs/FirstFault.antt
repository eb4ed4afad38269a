-- A clean place with a fault has the first fault.
use Rattle.std.proofs.Common.{◌≡◌, ◌≢◌, ℕ, ◌<◌, ◌≤◌, ◌⊎◌, List, length, refl, sym, subst, ◌∙◌, inl, inr, arith}
use Rattle.std.specs.Prelude.{slice_index}
use Rattle.cil_sexpr.specs.declared.fault.ReadCode.{ReadCode}
use Rattle.cil_sexpr.specs.declared.fault.ReadCode.TheVariants.{TooLong, Unclosed, StrayClose, OpenQuote, BadByte, TooDeep, OutsideList}
use Rattle.cil_sexpr.specs.Bytes.{left_bracket, right_bracket, double_quote, IsWordByte, IsBadByte}
use Rattle.cil_sexpr.specs.Faults.{Plain, depth_at, IsPlain, HasFault, number_of, FaultOf}
use Rattle.cil_sexpr.specs.Reading.{IsClean}
use Rattle.cil_sexpr.specs.Text.{IsString, deepest, longest_text}
use Rattle.cil_sexpr.proofs.Clean.{depth_here}

earlier_or_here : (at k : ℕ) → at ≤ k → (at < k) ⊎ (at ≡ k)
earlier_or_here at k h = grind arith

module _ {text : List ℕ} {depth at : ℕ} where
  -- no fault is earlier, and none of a lesser number is here
  first_here : (code : ReadCode) → IsClean text Plain depth at → HasFault text code at
      → ((other : ReadCode) → HasFault text other at → number_of code ≤ number_of other) → FaultOf text code at
  first_here code c h here = inr (
    c.short,
    record {
      fault = h;
      least = λ other k g. elim (earlier_or_here at k (c.first other k g)) [
        | inl less ↦ inl less
        | inr e ↦ inr (e, here other (subst (λ j. HasFault text other j) (sym e) g))
      ];
    },
  )

  is_plain_here : IsClean text Plain depth at → at < length text → IsPlain text at
  is_plain_here c inside = record { within = inside; plain = c.lies inside }

  pub unclosed : IsClean text Plain depth at → at ≡ length text → 0 < depth → FaultOf text Unclosed at
  unclosed c e some = first_here Unclosed c (e, deep) here
    where
      deep : 0 < depth_at text at
      deep = rw (depth_here c) some

      here : (other : ReadCode) → HasFault text other at → 2 ≤ number_of other
      here TooLong h = let short = c.short in omega arith
      here Unclosed h = omega arith
      here StrayClose h = omega arith
      here OpenQuote h = omega arith
      here BadByte h = omega arith
      here TooDeep h = omega arith
      here OutsideList h = omega arith

  pub stray_close : IsClean text Plain depth at → at < length text → slice_index text at ≡ right_bracket → depth ≡ 0 → FaultOf text StrayClose at
  stray_close c inside b top = first_here StrayClose c (is_plain_here c inside, b, depth_here c ∙ top) here
    where
      here : (other : ReadCode) → HasFault text other at → 3 ≤ number_of other
      here TooLong h = let short = c.short in omega arith
      here Unclosed h = omega arith
      here StrayClose h = omega arith
      here OpenQuote h = omega arith
      here BadByte h = omega arith
      here TooDeep h = omega arith
      here OutsideList h = omega arith

  pub open_quote : IsClean text Plain depth at → at < length text → slice_index text at ≡ double_quote
      → ((end : ℕ) → IsString text at end → ⊥) → FaultOf text OpenQuote at
  open_quote c inside b none = first_here OpenQuote c (is_plain_here c inside, b, none) here
    where
      here : (other : ReadCode) → HasFault text other at → 4 ≤ number_of other
      here TooLong h = let short = c.short in omega arith
      here Unclosed h = omega arith
      here StrayClose h = let byte = h.1 in omega arith
      here OpenQuote h = omega arith
      here BadByte h = omega arith
      here TooDeep h = omega arith
      here OutsideList h = omega arith

  pub bad_byte : IsClean text Plain depth at → at < length text → IsBadByte (slice_index text at) → FaultOf text BadByte at
  bad_byte c inside b = first_here BadByte c (is_plain_here c inside, b) here
    where
      here : (other : ReadCode) → HasFault text other at → 5 ≤ number_of other
      here TooLong h = let short = c.short in omega arith
      here Unclosed h = omega arith
      here StrayClose h = let byte = h.1 in elim b.1 [ inl low ↦ omega arith | inr high ↦ omega arith ]
      here OpenQuote h = let byte = h.1 in elim b.1 [ inl low ↦ omega arith | inr high ↦ omega arith ]
      here BadByte h = omega arith
      here TooDeep h = omega arith
      here OutsideList h = omega arith

  pub too_deep : IsClean text Plain depth at → at < length text → slice_index text at ≡ left_bracket → depth ≡ deepest → FaultOf text TooDeep at
  too_deep c inside b deep = first_here TooDeep c (is_plain_here c inside, b, depth_here c ∙ deep) here
    where
      here : (other : ReadCode) → HasFault text other at → 6 ≤ number_of other
      here TooLong h = let short = c.short in omega arith
      here Unclosed h = omega arith
      here StrayClose h = let byte = h.1 in omega arith
      here OpenQuote h = let byte = h.1 in omega arith
      here BadByte h = elim h.1.1 [ inl low ↦ omega arith | inr high ↦ omega arith ]
      here TooDeep h = omega arith
      here OutsideList h = omega arith

  -- a word or a closed string outside every list
  outside_list : IsClean text Plain depth at → at < length text → depth ≡ 0
      → (0x21 ≤ slice_index text at) × (slice_index text at ≤ 0x7E) × (slice_index text at ≢ left_bracket) × (slice_index text at ≢ right_bracket)
      → (slice_index text at ≡ double_quote → (end : ℕ) × IsString text at end)
      → IsWordByte (slice_index text at) ⊎ (slice_index text at ≡ double_quote) → FaultOf text OutsideList at
  outside_list c inside top b closed kind = first_here OutsideList c (is_plain_here c inside, kind, depth_here c ∙ top) here
    where
      here : (other : ReadCode) → HasFault text other at → 7 ≤ number_of other
      here TooLong h = let short = c.short in omega arith
      here Unclosed h = omega arith
      here StrayClose h = let byte = h.1 in omega arith
      here OpenQuote h = let s = closed h.1 in absurd (h.2 s.0 s.1)
      here BadByte h = elim h.1.1 [ inl low ↦ omega arith | inr high ↦ omega arith ]
      here TooDeep h = let byte = h.1 in omega arith
      here OutsideList h = omega arith

  pub word_outside : IsClean text Plain depth at → at < length text → depth ≡ 0 → IsWordByte (slice_index text at) → FaultOf text OutsideList at
  word_outside c inside top b = outside_list c inside top (b.0, b.1, b.2, b.3) (λ e. absurd (b.4 e)) (inl b)

  pub string_outside : (end : ℕ) → IsClean text Plain depth at → at < length text → depth ≡ 0 → slice_index text at ≡ double_quote → IsString text at end → FaultOf text OutsideList at
  string_outside end c inside top b s =
      outside_list c inside top (omega arith, omega arith, (λ e. omega arith), (λ e. omega arith)) (λ e. (end, s)) (inr b)

pub too_long : (text : List ℕ) (at : ℕ) → longest_text < length text → at ≡ longest_text → FaultOf text TooLong at
too_long text at long e = inl ((long, e), refl)
