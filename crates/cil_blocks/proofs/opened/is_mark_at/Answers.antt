use Rattle.std.proofs.Common.{sym, ◌∙◌, ap}
use Rattle.cil_syntax.specs.declared.program.Statement.{Statement}
use Rattle.cil_syntax.specs.Written.{is_abstraction}
use Rattle.cil_base.specs.Places.{there_as}
use Rattle.cil_blocks.proofs.NameLemmas.{keyword_some}
use Rattle.cil_blocks.proofs.opened.is_mark_at.Goals as goal

pub returns : goal.returns
returns c =
    c.is_mark.ensures
    ∙ ap (λ (s : Statement). is_abstraction s.keyword) (sym c.index-statements-number.is)
    ∙ sym (ap is_abstraction (keyword_some c.args.statements.now c.requires.nested c.args.number c.index-statements-number.result
    (there_as c.args.statements.now c.args.number c.index-statements-number.result c.requires.within c.index-statements-number.is)))
