use Rattle.std.proofs.Common.{sym, ◌∙◌, ap}
use Rattle.cil_base.specs.Places.{not_there, there_as}
use Rattle.cil_syntax.specs.Written.{Written}
use Rattle.cil_blocks.specs.Contents.{is_conditional}
use Rattle.cil_blocks.proofs.NameLemmas.{at_none, keyword_some}
use Rattle.cil_macros.proofs.faults.is_booleanif_at.Goals as goal

pub returns-in-None : goal.returns-in-None
returns-in-None c =
    sym (ap (λ (w : Written). is_conditional w.statement.keyword) (at_none c.args.statements.now c.requires c.args.number (not_there c.args.statements.now c.args.number c.in-None.ensures.lookup.3)))

pub returns-in-Some : goal.returns-in-Some
returns-in-Some c =
    c.is_conditional.ensures ∙ sym (ap is_conditional (keyword_some c.args.statements.now c.requires c.args.number _ (there_as c.args.statements.now c.args.number c.in-Some.statement.now c.in-Some.ensures.lookup.3.0 c.in-Some.ensures.lookup.1)))
