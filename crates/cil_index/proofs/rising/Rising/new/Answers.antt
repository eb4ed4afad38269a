use Rattle.cil_index.proofs.RisingLemmas.{none_rise}
use Rattle.cil_index.proofs.rising.Rising.new.Goals as goal

pub invariant_of-result : goal.invariant_of-result
invariant_of-result c = none_rise _ c.new.ensures.items
