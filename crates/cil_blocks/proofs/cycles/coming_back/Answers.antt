use Rattle.std.proofs.Common.{Bool, List, subst, sym}
use Rattle.cil_blocks.specs.Steps.{AreFlags}
use Rattle.cil_blocks.proofs.cycles.coming_back.Goals as goal

pub flagged-requires : goal.flagged-requires
flagged-requires c =
    subst (λ (flags : List Bool). AreFlags c.args.steps.now.parts.now c.args.steps.now.targets.now c.args.steps.now.count flags) (sym c.as_slice.ensures.value)
    c.in_ok-cycles.ensures
