use Rattle.std.proofs.Common.{sym, ◌∙◌, ap}
use Rattle.std.specs.Prelude.{not}
use Rattle.cil_base.specs.Places.{not_there, there_as}
use Rattle.cil_blocks.proofs.NameLemmas.{keyword_some}
use Rattle.cil_macros.specs.CallPlaces.{is_for_branches}
use Rattle.cil_macros.proofs.CallPlaceLemmas.{nothing_other, rules_and_calls}
use Rattle.cil_macros.proofs.brings.is_other_at.Goals as goal

pub returns-in-None : goal.returns-in-None
returns-in-None c = nothing_other c.args.statements.now c.requires c.args.number (not_there c.args.statements.now c.args.number c.in-None.ensures.lookup.3)

pub returns-in-Some : goal.returns-in-Some
returns-in-Some c =
    ap not (c.is_rule_or_call.ensures ∙ rules_and_calls c.in-Some.statement.now.keyword ∙ sym (ap is_for_branches (keyword_some c.args.statements.now c.requires c.args.number _
    (there_as c.args.statements.now c.args.number c.in-Some.statement.now c.in-Some.ensures.lookup.3.0 c.in-Some.ensures.lookup.1))))
