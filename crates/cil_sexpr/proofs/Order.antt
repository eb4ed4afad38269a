-- The nodes of a text stand in order, each within the list round it.
use Rattle.std.proofs.Common.{ℕ, ◌+◌, ◌≤◌, List, arith}
use Rattle.cil_sexpr.specs.Text.{IsSkipped, nothing, blank, comment, IsNode, AreNodes}
use Rattle.cil_sexpr.specs.Tree.{Node, Word, Quoted, Branch, Nodes, none, next, span_of, IsBetween, AreInOrder}

-- what is skipped lies onward
skipped_onward : {text : List ℕ} {from to : ℕ} → IsSkipped text from to → from ≤ to
skipped_onward nothing = omega arith
skipped_onward (blank inside b rest) = let on = skipped_onward rest in omega arith
skipped_onward (comment m rest) = let on = skipped_onward rest in let some = m.some in omega arith

-- nodes in order lie onward
ends_behind : (from to : ℕ) (n : Node) → IsBetween from to n → from ≤ (span_of n).end
ends_behind from to (Word place bytes) h = omega arith
ends_behind from to (Quoted place bytes) h = omega arith
ends_behind from to (Branch place inner) h = omega arith

order_onward : (from to : ℕ) (ns : Nodes) → AreInOrder from to ns → from ≤ to
order_onward from to none h = h
order_onward from to (next n ns) h =
    let here = ends_behind from to n h.0 in let later = order_onward (span_of n).end to ns h.1 in omega arith

-- in order between two places, so between wider ones
widen_node : (from to left right : ℕ) (n : Node) → left ≤ from → to ≤ right → IsBetween from to n → IsBetween left right n
widen_node from to left right (Word place bytes) l r h = (omega arith, h.1, omega arith)
widen_node from to left right (Quoted place bytes) l r h = (omega arith, h.1, omega arith)
widen_node from to left right (Branch place inner) l r h = (omega arith, h.1, omega arith, h.3)

widen : (from to left right : ℕ) (ns : Nodes) → left ≤ from → to ≤ right → AreInOrder from to ns → AreInOrder left right ns
widen from to left right none l r h = omega arith
widen from to left right (next n ns) l r h =
    (widen_node from to left right n l r h.0, widen (span_of n).end to (span_of n).end right ns (omega arith) r h.1)

mutual
  node_between : (text : List ℕ) (depth from to : ℕ) (n : Node) → from ≤ (span_of n).start → (span_of n).end ≤ to → IsNode text depth n → IsBetween from to n
  node_between text depth from to (Word place bytes) l r h = (l, h.1.some, r)
  node_between text depth from to (Quoted place bytes) l r h =
      let after = h.1.after in let ends = h.1.ends in (l, omega arith, r)
  node_between text depth from to (Branch place inner) l r (room, opens, last, ends, closes, stand) =
      let inside = nodes_in_order text (depth + 1) (place.start + 1) last inner stand in
      let on = order_onward (place.start + 1) last inner inside in
      (l, omega arith, r, widen (place.start + 1) last place.start place.end inner (omega arith) (omega arith) inside)

  pub nodes_in_order : (text : List ℕ) (depth from to : ℕ) (ns : Nodes) → AreNodes text depth from to ns → AreInOrder from to ns
  nodes_in_order text depth from to none h = skipped_onward h
  nodes_in_order text depth from to (next n ns) h =
      let later = nodes_in_order text depth (span_of n).end to ns h.2 in
      let on = order_onward (span_of n).end to ns later in
      (node_between text depth from to n (skipped_onward h.0) on h.1, later)
