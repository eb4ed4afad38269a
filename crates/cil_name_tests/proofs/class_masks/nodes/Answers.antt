use Rattle.cil_classes.proofs.GivensLemmas.{nodes_rise}
use Rattle.cil_name_tests.proofs.class_masks.nodes.Goals as goal

pub returns : goal.returns
returns c = nodes_rise _ _ _ c.sort_unstable.ensures.permutation c.sort_unstable.ensures.sorted c.dedup.ensures.filtered
