-- The bytes beside the place of a word or a string are those of the text, however deep the node lies.
use Rattle.std.specs.Prelude.{ℕ, ◌+◌, List, length}
use Rattle.cil_sexpr.specs.Laws.{IsSlice, HasSlices}
use Rattle.cil_sexpr.specs.Text.{nothing, IsNode, AreNodes}
use Rattle.cil_sexpr.specs.Tree.{Node, Word, Quoted, Branch, Nodes, inner_of, Lies, here, inside, later}

module _ (text : List ℕ) where
  -- the items of a node stand in the text
  inner_stands : (depth : ℕ) (m : Node) → IsNode text depth m → (d from to : ℕ) × AreNodes text d from to (inner_of m)
  inner_stands depth (Word place bytes) h = (0, 0, 0, nothing)
  inner_stands depth (Quoted place bytes) h = (0, 0, 0, nothing)
  inner_stands depth (Branch place inner) h = (depth + 1, place.start + 1, h.2, h.5)

  node_slice : (depth : ℕ) (n : Node) → IsNode text depth n → IsSlice text n
  node_slice depth (Word place bytes) h = h.2
  node_slice depth (Quoted place bytes) h = h.2
  node_slice depth (Branch place inner) h = tt

  lies_slice : (n : Node) (ns : Nodes) (d from to : ℕ) → AreNodes text d from to ns → Lies n ns → IsSlice text n
  lies_slice n ns d from to h here = node_slice d n h.1
  lies_slice n ns d from to h (inside {m = m} l) =
      let s : (e i j : ℕ) × AreNodes text e i j (inner_of m) = inner_stands d m h.1 in lies_slice n (inner_of m) s.0 s.1 s.2 s.3 l
  lies_slice n ns d from to h (later {m = m} {ns = rest} l) = lies_slice n rest d _ to h.2 l

pub has_slices : HasSlices
has_slices text nodes n t l = lies_slice text n nodes 0 0 (length text) t.whole l
