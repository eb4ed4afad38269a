use Rattle.std.specs.Prelude.{drop}
use Rattle.cil_sexpr.specs.View.{nodes_of}
use Rattle.cil_syntax.specs.Readings.{cells_of, read_row}
use Rattle.cil_syntax.specs.Shapes.{looked_up, many}
use Rattle.cil_syntax.specs.Told.{AreRead}
use Rattle.cil_syntax.specs.Around.{space_of}
use Rattle.cil_syntax.proofs.reader.Reader.read_some.Given as goal

abbrev pub invariant-loop-node : goal.invariant-loop-node
invariant-loop-node l =
    AreRead l.self.number (space_of l.self.place.now) (read_row (many (looked_up l.sign)) (cells_of l.self.number (nodes_of l.self.text.now l.nodes)))
    (read_row (many (looked_up l.sign)) (cells_of l.self.number (nodes_of l.self.text.now (drop l.node-index l.nodes)))) l.fn.faults.items l.faults.items l.terms.items
