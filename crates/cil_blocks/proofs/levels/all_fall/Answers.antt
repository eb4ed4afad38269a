use Rattle.std.proofs.Common.{List, ℕ, subst}
use Rattle.cil_blocks.specs.Steps.{Fall}
use Rattle.cil_blocks.proofs.StepLemmas.{none_back}
use Rattle.cil_blocks.proofs.levels.all_fall.Goals as goal

pub returns : goal.returns
returns c = λ t.
    none_back c.args.steps.now.parts.now c.args.steps.now.targets.now c.args.steps.now.count c.in_ok-levels.levels.items c.requires
    (subst (λ (ls : List ℕ). Fall c.args.steps.now.parts.now c.args.steps.now.targets.now c.args.steps.now.count ls) c.as_slice.ensures.value (c.each_falls.ensures t))
