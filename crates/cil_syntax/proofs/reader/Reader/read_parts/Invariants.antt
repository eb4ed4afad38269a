use Rattle.std.specs.Prelude.{drop, map}
use Rattle.cil_sexpr.specs.View.{nodes_of}
use Rattle.cil_syntax.specs.Laid.{items_of}
use Rattle.cil_syntax.specs.Readings.{cells_of, read_row}
use Rattle.cil_syntax.specs.Spoken.{part_of}
use Rattle.cil_syntax.specs.Told.{AreRead}
use Rattle.cil_syntax.specs.Around.{space_of}
use Rattle.cil_syntax.proofs.reader.Reader.read_parts.Given as goal

abbrev pub invariant-loop-index : goal.invariant-loop-index
invariant-loop-index l =
    AreRead l.self.number (space_of l.self.place.now) (read_row (items_of (map part_of l.parts)) (cells_of l.self.number (nodes_of l.self.text.now l.nodes)))
    (read_row (items_of (map part_of (drop l.index l.parts))) (cells_of l.self.number (nodes_of l.self.text.now (drop l.index l.nodes)))) l.fn.faults.items l.faults.items l.terms.items
