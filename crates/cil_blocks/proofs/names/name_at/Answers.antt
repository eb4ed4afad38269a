use Rattle.std.proofs.Common.{sym}
use Rattle.cil_base.specs.Places.{not_there, there_as}
use Rattle.cil_blocks.proofs.NameLemmas.{name_none, no_name, some_name}
use Rattle.cil_blocks.proofs.names.name_at.Goals as goal

pub returns-in-None : goal.returns-in-None
returns-in-None c = λ nested. sym (name_none c.args.statements.now nested c.args.number (not_there c.args.statements.now c.args.number c.in-None.ensures.lookup.3))

pub returns-in-None-declared_name : goal.returns-in-None-declared_name
returns-in-None-declared_name c =
    λ nested. sym (no_name c.args.statements.now nested c.args.number _ (there_as c.args.statements.now c.args.number c.in-Some.statement.now c.in-Some.ensures.lookup.3.0 c.in-Some.ensures.lookup.1) c.in-None-declared_name.ensures)

pub returns-in-Some-declared_name : goal.returns-in-Some-declared_name
returns-in-Some-declared_name c =
    λ nested. sym (some_name c.args.statements.now nested c.args.number _ _ _ (there_as c.args.statements.now c.args.number c.in-Some.statement.now c.in-Some.ensures.lookup.3.0 c.in-Some.ensures.lookup.1) c.in-Some-declared_name.ensures)
