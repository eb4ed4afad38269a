use Rattle.std.proofs.Common.{refl, arith}
use Rattle.cil_modset.proofs.RowLemmas.{order_none}
use Rattle.cil_modset.proofs.texts.Texts.new.Goals as goal

pub invariant_of-result : goal.invariant_of-result
invariant_of-result c = rw c.new.ensures.items (record { order = order_none; count_is = refl; fits = omega arith })
