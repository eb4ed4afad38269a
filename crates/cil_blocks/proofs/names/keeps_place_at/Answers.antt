use Rattle.std.proofs.Common.{sym, ◌∙◌, ap}
use Rattle.cil_syntax.specs.Written.{Written}
use Rattle.cil_blocks.specs.Contents.{keeps_place}
use Rattle.cil_base.specs.Places.{not_there, there_as}
use Rattle.cil_blocks.proofs.NameLemmas.{at_none, keyword_some}
use Rattle.cil_blocks.proofs.names.keeps_place_at.Goals as goal

pub returns-in-None : goal.returns-in-None
returns-in-None c =
    λ nested. sym (ap (λ (w : Written). keeps_place w.statement.keyword) (at_none c.args.statements.now nested c.args.number (not_there c.args.statements.now c.args.number c.in-None.ensures.lookup.3)))

pub returns-in-Some : goal.returns-in-Some
returns-in-Some c =
    λ nested. c.keeps_place.ensures ∙ sym (ap keeps_place (keyword_some c.args.statements.now nested c.args.number _ (there_as c.args.statements.now c.args.number c.in-Some.statement.now c.in-Some.ensures.lookup.3.0 c.in-Some.ensures.lookup.1)))
