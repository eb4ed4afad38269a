use Rattle.std.proofs.Common.{sym, ap}
use Rattle.cil_base.specs.Places.{not_there, there_as}
use Rattle.cil_blocks.specs.WrittenSpaces.{under_of}
use Rattle.cil_blocks.proofs.names.under_at.Goals as goal

pub returns-in-None : goal.returns-in-None
returns-in-None c = ap under_of (sym (not_there c.args.statements.now c.args.number c.in-None.ensures.lookup.3))

pub returns-in-Some : goal.returns-in-Some
returns-in-Some c =
    ap under_of (sym (there_as c.args.statements.now c.args.number c.in-Some.statement.now c.in-Some.ensures.lookup.3.0 c.in-Some.ensures.lookup.1))
