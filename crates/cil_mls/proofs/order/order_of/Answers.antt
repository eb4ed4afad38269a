use Rattle.std.proofs.lemmas.List.Sorted.{All-permutation}
use Rattle.cil_settle.specs.Cycles.{IsWithin}
use Rattle.cil_mls.proofs.EdgeLemmas.{answered_too}
use Rattle.cil_mls.proofs.order.order_of.Goals as goal

pub order_along-requires-clause-within : goal.order_along-requires-clause-within
order_along-requires-clause-within c = All-permutation (IsWithin c.args.count) _ _ c.sort_edges.ensures.same c.requires

pub returns : goal.returns
returns c = record {
  order = answered_too (λ v. v.items) c.args.count _ _ _ c.sort_edges.ensures.same c.order_along.ensures;
  same = c.sort_edges.ensures.same;
}
