use Rattle.cil_faults.proofs.BothLemmas.{answers_both}
use Rattle.cil_mls.proofs.ordered.both_orders.Goals as goal

pub returns : goal.returns
returns c = answers_both _ _ _ _ _ _ _ c.together.ensures c.sensitivities_of-sensitivities.ensures c.categories_of-categories.ensures
