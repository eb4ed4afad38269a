use Rattle.cil_base.specs.Places.{not_there, there_as}
use Rattle.cil_macros.proofs.DeclaredLemmas.{lower_some, round_none, round_some}
use Rattle.cil_macros.proofs.declared_names.opener_of.Goals as goal

pub returns-in-None-clause-round : goal.returns-in-None-clause-round
returns-in-None-clause-round c = round_none c.args.statements.now c.requires c.args.number (not_there c.args.statements.now c.args.number c.in-None.ensures.lookup.3)

pub returns-in-Some-clause-lower : goal.returns-in-Some-clause-lower
returns-in-Some-clause-lower c =
    lower_some c.args.statements.now c.requires c.args.number c.in-Some.statement.now
    (there_as c.args.statements.now c.args.number c.in-Some.statement.now c.in-Some.ensures.lookup.3.0 c.in-Some.ensures.lookup.1)

pub returns-in-Some-clause-round : goal.returns-in-Some-clause-round
returns-in-Some-clause-round c =
    round_some c.args.statements.now c.requires c.args.number c.in-Some.statement.now
    (there_as c.args.statements.now c.args.number c.in-Some.statement.now c.in-Some.ensures.lookup.3.0 c.in-Some.ensures.lookup.1)
