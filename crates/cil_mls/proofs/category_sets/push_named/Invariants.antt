use Rattle.std.specs.Prelude.{take}
use Rattle.cil_mls.specs.Pairs.{LeadMore}
use Rattle.cil_mls.proofs.SetEdgeLemmas.{LeadsTo}
use Rattle.cil_mls.proofs.category_sets.push_named.Given as goal

abbrev pub invariant-loop-place : goal.invariant-loop-place
invariant-loop-place l = LeadMore l.fn.edges.items l.edges.items (LeadsTo l.entries l.set (take l.place l.words))
