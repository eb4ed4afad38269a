use Rattle.cil_base.specs.Lists.{contains_none}
use Rattle.cil_modset.proofs.RisingLemmas.{rising_none}
use Rattle.cil_modset.proofs.set.ModuleSet.new.Goals as goal

pub invariant_of-result : goal.invariant_of-result
invariant_of-result c = rw c.new.ensures (record { rising = rising_none; readable = λ text h. absurd (contains_none text h) })
