use Rattle.std.proofs.Common.{sym, ◌∙◌, ap}
use Rattle.cil_syntax.specs.declared.program.Statement.{Statement}
use Rattle.cil_syntax.specs.Program.{program_of}
use Rattle.cil_base.specs.Places.{there_as}
use Rattle.cil_blocks.specs.Contents.{is_inheriting}
use Rattle.cil_blocks.proofs.AllTargets.{are_targets, no_targets_of}
use Rattle.cil_blocks.proofs.NameLemmas.{keyword_some}
use Rattle.cil_blocks.proofs.targets.targets_kept.Goals as goal

pub returns-then-not-is_inheriting : goal.returns-then-not-is_inheriting
returns-then-not-is_inheriting c =
    no_targets_of (program_of c.args.statements.now) c.args.number
    (ap is_inheriting (keyword_some c.args.statements.now c.requires.nested c.args.number c.index-statements-number.result
    (there_as c.args.statements.now c.args.number c.index-statements-number.result c.requires.within c.index-statements-number.is))
    ∙ ap (λ (s : Statement). is_inheriting s.keyword) c.index-statements-number.is ∙ sym c.is_inheriting.ensures ∙ c.if-not-is_inheriting.true)

pub returns : goal.returns
returns c =
    are_targets (program_of c.args.statements.now) c.args.number c.targets_at.result.now
    (ap is_inheriting (keyword_some c.args.statements.now c.requires.nested c.args.number c.index-statements-number.result
    (there_as c.args.statements.now c.args.number c.index-statements-number.result c.requires.within c.index-statements-number.is))
    ∙ ap (λ (s : Statement). is_inheriting s.keyword) c.index-statements-number.is ∙ sym c.is_inheriting.ensures ∙ c.if-not-is_inheriting.false)
    c.targets_at.ensures.named c.targets_at.ensures.numbers
