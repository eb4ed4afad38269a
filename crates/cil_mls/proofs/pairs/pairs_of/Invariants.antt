use Rattle.std.specs.Prelude.{take}
use Rattle.cil_attrs.specs.macros.Items.{items_in}
use Rattle.cil_mls.proofs.PairLemmas.{LeadIn}
use Rattle.cil_mls.proofs.pairs.pairs_of.Given as goal

abbrev pub invariant-loop-at : goal.invariant-loop-at
invariant-loop-at l = LeadIn l.known l.standing l.keyword (items_in l.instances) (take l.at (items_in l.instances)) l.edges.items
