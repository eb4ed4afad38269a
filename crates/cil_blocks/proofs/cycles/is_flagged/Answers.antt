use Rattle.std.proofs.Common.{sym, ◌∙◌}
use Rattle.cil_blocks.proofs.StepLemmas.{has_flag, no_target}
use Rattle.cil_blocks.proofs.cycles.is_flagged.Goals as goal

pub returns-then-is_empty : goal.returns-then-is_empty
returns-then-is_empty c =
    no_target c.args.steps.now.targets.now c.args.number c.args.flags.now c.at.result.now c.at.ensures (sym c.if-is_empty.true ∙ c.is_empty.ensures)

pub returns : goal.returns
returns c =
    has_flag c.args.steps.now.targets.now c.args.number c.args.flags.now c.at.result.now c.flag_at.result c.at.ensures (sym c.if-is_empty.false ∙ c.is_empty.ensures)
    c.flag_at.ensures
