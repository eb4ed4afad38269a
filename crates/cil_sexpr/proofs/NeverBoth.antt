-- A text with a tree is clean to its end, and so has no fault.
use Rattle.std.proofs.Common.{ℕ, ◌+◌, ◌<◌, List, length, inl, inr, sym, subst, arith}
use Rattle.cil_sexpr.specs.declared.fault.ReadCode.{ReadCode}
use Rattle.cil_sexpr.specs.declared.fault.ReadCode.TheVariants.{TooLong, Unclosed, StrayClose, OpenQuote, BadByte, TooDeep, OutsideList}
use Rattle.cil_sexpr.specs.Faults.{Plain, depth_at, HasFault}
use Rattle.cil_sexpr.specs.Laws.{NeverBoth}
use Rattle.cil_sexpr.specs.Reading.{IsClean}
use Rattle.cil_sexpr.specs.Text.{IsSkipped, nothing, blank, comment, IsNode, AreNodes}
use Rattle.cil_sexpr.specs.Tree.{Node, Word, Quoted, Branch, Nodes, none, next, span_of}
use Rattle.cil_sexpr.proofs.Clean.{clean_start, clean_blank, clean_open, clean_close, depth_here}
use Rattle.cil_sexpr.proofs.Runs.{clean_word, clean_string, clean_comment}

pub clean_skipped : {text : List ℕ} (depth : ℕ) {from to : ℕ} → IsSkipped text from to → IsClean text Plain depth from → IsClean text Plain depth to
clean_skipped depth nothing c = c
clean_skipped depth (blank inside b rest) c = clean_skipped depth rest (clean_blank c inside b)
clean_skipped depth (comment m rest) c = clean_skipped depth rest (clean_comment _ depth _ _ c m)

mutual
  clean_node : (text : List ℕ) (depth : ℕ) (n : Node) → IsNode text depth n → IsClean text Plain depth (span_of n).start → IsClean text Plain depth (span_of n).end
  clean_node text depth (Word place bytes) h c = clean_word text depth place.start place.end h.0 c h.1
  clean_node text depth (Quoted place bytes) h c = clean_string text depth place.start place.end h.0 c h.1
  clean_node text depth (Branch place inner) (room, opens, last, ends, closes, stand) c =
      let inside = clean_nodes text (depth + 1) (place.start + 1) last inner stand (clean_open c opens.0 opens.1 room) in
      subst (IsClean text Plain depth) (sym ends) (clean_close inside closes.0 closes.1)

  clean_nodes : (text : List ℕ) (depth from to : ℕ) (ns : Nodes) → AreNodes text depth from to ns → IsClean text Plain depth from → IsClean text Plain depth to
  clean_nodes text depth from to none h c = clean_skipped depth h c
  clean_nodes text depth from to (next n ns) h c =
      clean_nodes text depth (span_of n).end to ns h.2 (clean_node text depth n h.1 (clean_skipped depth h.0 c))

-- nothing is at fault before the end, and nothing at it
no_fault : (text : List ℕ) → IsClean text Plain 0 (length text) → (code : ReadCode) (at : ℕ) → HasFault text code at → ⊥
no_fault text c TooLong at h = let short = c.short in omega arith
no_fault text c Unclosed at h = let top = depth_here c in let open_lists = subst (λ k. 0 < depth_at text k) h.0 h.1 in omega arith
no_fault text c StrayClose at h = let end = c.first StrayClose at h in let within = h.0.within in omega arith
no_fault text c OpenQuote at h = let end = c.first OpenQuote at h in let within = h.0.within in omega arith
no_fault text c BadByte at h = let end = c.first BadByte at h in let within = h.0.within in omega arith
no_fault text c TooDeep at h = let end = c.first TooDeep at h in let within = h.0.within in omega arith
no_fault text c OutsideList at h = let end = c.first OutsideList at h in let within = h.0.within in omega arith

pub never_both : NeverBoth
never_both text code at readable fault =
    let tree = readable.tree in
    let clean = clean_nodes text 0 0 (length text) readable.nodes tree.whole (clean_start text tree.short) in
    elim fault [ inl long ↦ no_fault text clean TooLong at long.0 | inr first ↦ no_fault text clean code at first.1.fault ]
