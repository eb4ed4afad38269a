use Rattle.std.proofs.Common.{◌≡◌}
use Rattle.std.specs.Prelude.{Contains, take}
use Rattle.cil_mls.specs.Pairs.{LeadMore}
use Rattle.cil_mls.proofs.pairs.push_from.Given as goal

abbrev pub invariant-loop-to : goal.invariant-loop-to
invariant-loop-to l = LeadMore l.fn.edges.items l.edges.items (λ a b. (a ≡ l.from) × Contains (take l.to-index l.high) b)
