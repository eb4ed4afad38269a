use Rattle.std.proofs.Common.{subst, sym}
use Rattle.cil_syntax.specs.Program.{IsNested}
use Rattle.cil_level_tests.proofs.orders.show_program.Goals as goal

pub show_spaces-requires-clause-standings : goal.show_spaces-requires-clause-standings
show_spaces-requires-clause-standings c = c.in-Ok.ensures.0.1

pub show_spaces-requires-clause-nested : goal.show_spaces-requires-clause-nested
show_spaces-requires-clause-nested c = subst IsNested (sym c.in-Ok.ensures.0.0) c.statements.ensures.nested
