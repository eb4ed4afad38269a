use Rattle.cil_macros.specs.Items.{items_in}
use Rattle.cil_classes.specs.known.Known.{enabled_in}
use Rattle.cil_constraints.proofs.GatherLemmas.{all_given}
use Rattle.cil_constraints.proofs.gather.constraints.Goals as goal

pub returns : goal.returns
returns c = λ switched names known apart standing classes given.
    all_given (items_in c.args.instances.now) (enabled_in c.args.known.now) _ _ _ _ (c.in_ok-list.ensures switched names known apart standing classes given) c.sort_unstable.ensures.permutation
    c.sort_unstable.ensures.sorted c.dedup.ensures.filtered
