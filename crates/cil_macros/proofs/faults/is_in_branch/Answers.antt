use Rattle.cil_base.specs.Places.{not_there, there_as}
use Rattle.cil_macros.proofs.CallPlaceLemmas.{none_in_branch, top_in_branch, under_in_branch}
use Rattle.cil_macros.proofs.faults.is_in_branch.Goals as goal

pub returns-in-None : goal.returns-in-None
returns-in-None c = none_in_branch c.args.statements.now c.requires c.args.number (not_there c.args.statements.now c.args.number c.in-None.ensures.lookup.3)

pub returns-in-None-under : goal.returns-in-None-under
returns-in-None-under c =
    top_in_branch c.args.statements.now c.requires c.args.number c.in-Some.statement.now
    (there_as c.args.statements.now c.args.number c.in-Some.statement.now c.in-Some.ensures.lookup.3.0 c.in-Some.ensures.lookup.1) c.in-None-under.is

pub returns-in-Some-under : goal.returns-in-Some-under
returns-in-Some-under c =
    under_in_branch c.args.statements.now c.requires c.args.number c.in-Some.statement.now c.in-Some-under.round c.is_booleanif_at.result
    (there_as c.args.statements.now c.args.number c.in-Some.statement.now c.in-Some.ensures.lookup.3.0 c.in-Some.ensures.lookup.1) c.in-Some-under.is c.is_booleanif_at.ensures
