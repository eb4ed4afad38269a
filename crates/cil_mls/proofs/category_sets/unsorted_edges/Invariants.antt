use Rattle.std.specs.Prelude.{take}
use Rattle.cil_attrs.specs.macros.Items.{items_in}
use Rattle.cil_mls.proofs.SetEdgeLemmas.{LeadAmong}
use Rattle.cil_mls.proofs.category_sets.unsorted_edges.Given as goal

abbrev pub invariant-loop-at : goal.invariant-loop-at
invariant-loop-at l = LeadAmong l.known (items_in l.instances) (take l.at (items_in l.instances)) l.edges.items
