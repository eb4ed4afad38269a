use Rattle.std.proofs.Common.{rules}
use Rattle.std.proofs.lemmas.List.Sorted.{IsNonDecreasingBy-from_sort, answers_always}
use Rattle.cil_settle.specs.declared.edge.Edge.{Edge}
use Rattle.cil_settle.proofs.edge.sort_edges.Goals as goal

pub returns-clause-sorted : goal.returns-clause-sorted
returns-clause-sorted c =
    IsNonDecreasingBy-from_sort (λ (e : Edge). e.from) _
    (c.sort_unstable_by_key.ensures.sorted (λ (e : Edge). e.from) (answers_always _ _ _ (λ f a r g h. search rules)))
