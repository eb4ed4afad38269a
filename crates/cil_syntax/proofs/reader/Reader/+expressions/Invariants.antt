use Rattle.std.specs.Prelude.{drop}
use Rattle.cil_sexpr.specs.View.{nodes_of}
use Rattle.cil_syntax.specs.Readings.{cells_of, read_row}
use Rattle.cil_syntax.specs.Shapes.{expression, many}
use Rattle.cil_syntax.specs.Told.{AreRead}
use Rattle.cil_syntax.specs.Around.{space_of}
use Rattle.cil_syntax.proofs.reader.Reader.+expressions.Given as goal

abbrev pub invariant-read_expressions-loop-index : goal.invariant-read_expressions-loop-index
invariant-read_expressions-loop-index l =
    AreRead l.self.number (space_of l.self.place.now) (read_row (many (expression l.language)) (cells_of l.self.number (nodes_of l.self.text.now (drop l.fn.skipped l.nodes))))
    (read_row (many (expression l.language)) (cells_of l.self.number (nodes_of l.self.text.now (drop l.index l.nodes)))) l.fn.faults.items l.faults.items l.terms.items
