-- Every text has a tree or a fault: from each clean place on there are nodes up to the end of the level, or
-- there is a fault. By induction on the bytes that are left.
use Rattle.std.proofs.Common.{◌≡◌, ℕ, zero, suc, ◌+◌, ◌<◌, ◌≤◌, ◌⊎◌, List, length, inl, inr, refl, subst, arith}
use Rattle.std.specs.Prelude.{slice_index, slice_range}
use Rattle.cil_sexpr.specs.declared.fault.ReadCode.{ReadCode}
use Rattle.cil_sexpr.specs.declared.fault.ReadCode.TheVariants.{TooLong, Unclosed, StrayClose, OpenQuote, BadByte, TooDeep, OutsideList}
use Rattle.cil_sexpr.specs.declared.node.Span.{Span}
use Rattle.cil_sexpr.specs.Bytes.{left_bracket, IsBlank, HasByte}
use Rattle.cil_sexpr.specs.Faults.{Plain, FaultOf}
use Rattle.cil_sexpr.specs.Laws.{AlwaysEither, IsFaulty}
use Rattle.cil_sexpr.specs.Reading.{IsClean, EndsLevel}
use Rattle.cil_sexpr.specs.Text.{IsWord, IsString, IsComment, nothing, AreNodes, IsReadable, deepest, longest_text}
use Rattle.cil_sexpr.specs.Tree.{Word, Quoted, Branch, Nodes, none, next}
use Rattle.cil_sexpr.proofs.Clean.{clean_start, clean_blank, clean_open, clean_close}
use Rattle.cil_sexpr.proofs.Ends.{Kind, kind, is_blank, is_semicolon, is_quote, is_left, is_right, is_word_byte, is_bad, word_end, string_end, comment_end}
use Rattle.cil_sexpr.proofs.FirstFault.{unclosed, stray_close, open_quote, bad_byte, too_deep, word_outside, string_outside, too_long}
use Rattle.cil_sexpr.proofs.Level.{behind_blank, behind_comment}
use Rattle.cil_sexpr.proofs.Runs.{clean_word, clean_string, clean_comment}

-- the nodes of a level from a place on
record Rest (text : List ℕ) (depth from : ℕ) : Type 0 where
  nodes : Nodes
  end : ℕ
  onward : from ≤ end
  clean : IsClean text Plain depth end
  ends : EndsLevel text depth end
  stand : AreNodes text depth from end nodes

faulty : {text : List ℕ} (code : ReadCode) (at : ℕ) → FaultOf text code at → IsFaulty text
faulty code at h = record { code = code; at = at; fault = h }

module _ (text : List ℕ) where
  -- nothing more, at the end of the level
  done : (depth at : ℕ) → IsClean text Plain depth at → EndsLevel text depth at → Rest text depth at
  done depth at c ends = record { nodes = none; end = at; onward = omega arith; clean = c; ends = ends; stand = nothing }

  -- something in front of the rest
  after_blank : (depth at : ℕ) → at < length text → IsBlank (slice_index text at) → Rest text depth (at + 1) → Rest text depth at
  after_blank depth at inside b r = record {
    nodes = r.nodes;
    end = r.end;
    onward = let on = r.onward in omega arith;
    clean = r.clean;
    ends = r.ends;
    stand = behind_blank text depth at r.end r.nodes inside b r.stand;
  }

  after_comment : (depth at stop : ℕ) → IsComment text at stop → Rest text depth stop → Rest text depth at
  after_comment depth at stop m r = record {
    nodes = r.nodes;
    end = r.end;
    onward = let on = r.onward in let some = m.some in omega arith;
    clean = r.clean;
    ends = r.ends;
    stand = behind_comment text depth at stop r.end r.nodes m r.stand;
  }

  span_from : ℕ → ℕ → Span
  span_from start end = record { start = start; end = end }

  after_word : (depth at end : ℕ) → 0 < depth → IsWord text at end → Rest text depth end → Rest text depth at
  unfolding span_from
  after_word depth at end deep w r = record {
    nodes = next (Word (span_from at end) (slice_range text at end)) r.nodes;
    end = r.end;
    onward = let on = r.onward in let some = w.some in omega arith;
    clean = r.clean;
    ends = r.ends;
    stand = (nothing, (deep, w, refl), r.stand);
  }

  after_string : (depth at end : ℕ) → 0 < depth → IsString text at end → Rest text depth end → Rest text depth at
  unfolding span_from
  after_string depth at end deep s r = record {
    nodes = next (Quoted (span_from at end) (slice_range text at end)) r.nodes;
    end = r.end;
    onward = let on = r.onward in let after = s.after in let ends = s.ends in omega arith;
    clean = r.clean;
    ends = r.ends;
    stand = (nothing, (deep, s, refl), r.stand);
  }

  after_list : (depth at : ℕ) → depth < deepest → HasByte text at left_bracket → (inner : Rest text (depth + 1) (at + 1)) → Rest text depth (inner.end + 1)
      → Rest text depth at
  unfolding span_from
  after_list depth at room opens inner r = record {
    nodes = next (Branch (span_from at (inner.end + 1)) inner.nodes) r.nodes;
    end = r.end;
    onward = let on = r.onward in let inside = inner.onward in omega arith;
    clean = r.clean;
    ends = r.ends;
    stand = (nothing, (room, opens, inner.end, refl, inner.ends.list (omega arith), inner.stand), r.stand);
  }

  -- at the end of the text
  at_end : (depth at : ℕ) → IsClean text Plain depth at → at ≡ length text → Rest text depth at ⊎ IsFaulty text
  at_end zero at c e = inl (done zero at c record { top = λ z. e; list = λ h. absurd (omega arith) })
  at_end (suc depth) at c e = inr (faulty Unclosed at (unclosed c e (omega arith)))

  onto : (depth at from : ℕ) → (Rest text depth from → Rest text depth at) → Rest text depth from ⊎ IsFaulty text → Rest text depth at ⊎ IsFaulty text
  onto depth at from f (inl r) = inl (f r)
  onto depth at from f (inr h) = inr h

  top_or_inside : (depth : ℕ) → (depth ≡ 0) ⊎ (0 < depth)
  top_or_inside zero = inl refl
  top_or_inside (suc depth) = inr (omega arith)

  full_or_room : (depth : ℕ) → depth ≤ deepest → (depth ≡ deepest) ⊎ (depth < deepest)
  full_or_room depth h = grind arith

  end_or_inside : (at : ℕ) → at ≤ length text → (at ≡ length text) ⊎ (at < length text)
  end_or_inside at h = grind arith

  -- the same with fewer bytes left
  abbrev Again : ℕ → Type 0
  Again n = (depth at : ℕ) → length text ≤ at + n → depth ≤ deepest → IsClean text Plain depth at → Rest text depth at ⊎ IsFaulty text

  item : (n : ℕ) → Again n → (depth at : ℕ) → length text ≤ at + suc n → depth ≤ deepest → IsClean text Plain depth at → at < length text → Kind (slice_index text at)
      → Rest text depth at ⊎ IsFaulty text
  item n again depth at left room c inside (is_blank b) =
      onto depth at (at + 1) (after_blank depth at inside b) (again depth (at + 1) (omega arith) room (clean_blank c inside b))
  item n again depth at left room c inside (is_semicolon b) =
      let m = comment_end text at (inside, b) in
      onto depth at m.0 (after_comment depth at m.0 m.1)
      (again depth m.0 (let some = m.1.some in omega arith) room (clean_comment text depth at m.0 c m.1))
  item n again depth at left room c inside (is_quote b) = elim (string_end text at (inside, b)) [
    | inr open_one ↦ inr (faulty OpenQuote at (open_quote c inside b open_one))
    | inl s ↦ elim (top_or_inside depth) [
      | inl top ↦ inr (faulty OutsideList at (string_outside s.0 c inside top b s.1))
      | inr deep ↦ onto depth at s.0 (after_string depth at s.0 deep s.1)
          (again depth s.0 (let after = s.1.after in let ends = s.1.ends in omega arith) room (clean_string text depth at s.0 deep c s.1))
    ]
  ]
  item n again depth at left room c inside (is_left b) = elim (full_or_room depth room) [
    | inl full ↦ inr (faulty TooDeep at (too_deep c inside b full))
    | inr more ↦ elim (again (depth + 1) (at + 1) (omega arith) (omega arith) (clean_open c inside b more)) [
      | inr h ↦ inr h
      | inl inner ↦ (let closes = inner.ends.list (omega arith) in
          onto depth at (inner.end + 1) (after_list depth at more (inside, b) inner)
          (again depth (inner.end + 1) (let on = inner.onward in omega arith) room (clean_close inner.clean closes.0 closes.1)))
    ]
  ]
  item n again depth at left room c inside (is_right b) = elim (top_or_inside depth) [
    | inl top ↦ inr (faulty StrayClose at (stray_close c inside b top))
    | inr deep ↦ inl (done depth at c record { top = λ e. absurd (omega arith); list = λ h. (inside, b) })
  ]
  item n again depth at left room c inside (is_word_byte b) = elim (top_or_inside depth) [
    | inl top ↦ inr (faulty OutsideList at (word_outside c inside top b))
    | inr deep ↦ (let w = word_end text at inside b in
        onto depth at w.0 (after_word depth at w.0 deep w.1)
        (again depth w.0 (let some = w.1.some in omega arith) room (clean_word text depth at w.0 deep c w.1)))
  ]
  item n again depth at left room c inside (is_bad b) = inr (faulty BadByte at (bad_byte c inside b))

  level : (n : ℕ) → Again n
  level zero depth at left room c = at_end depth at c (let within = c.within in omega arith)
  level (suc n) depth at left room c = elim (end_or_inside at c.within) [
    | inl e ↦ at_end depth at c e
    | inr inside ↦ item n (level n) depth at left room c inside (kind (slice_index text at))
  ]

long_or_short : (n : ℕ) → (longest_text < n) ⊎ (n ≤ longest_text)
long_or_short n = grind arith

pub always_either : AlwaysEither
always_either text = elim (long_or_short (length text)) [
  | inl long ↦ inr (faulty TooLong longest_text (too_long text longest_text long refl))
  | inr short ↦ by short (level text (length text) 0 0 (omega arith) (omega arith) (clean_start text short))
]
  where
    by : length text ≤ longest_text → Rest text 0 0 ⊎ IsFaulty text → IsReadable text ⊎ IsFaulty text
    by short (inl r) = inl record {
      nodes = r.nodes;
      tree = record { short = short; whole = subst (λ k. AreNodes text 0 0 k r.nodes) (r.ends.top refl) r.stand };
    }
    by short (inr h) = inr h
