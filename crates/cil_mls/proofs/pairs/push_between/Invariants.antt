use Rattle.std.specs.Prelude.{Contains, take}
use Rattle.cil_mls.specs.Pairs.{LeadMore}
use Rattle.cil_mls.proofs.pairs.push_between.Given as goal

abbrev pub invariant-loop-from : goal.invariant-loop-from
invariant-loop-from l = LeadMore l.fn.edges.items l.edges.items (λ a b. Contains (take l.from-index l.low) a × Contains l.high b)
