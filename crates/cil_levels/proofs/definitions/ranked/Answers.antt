use Rattle.std.proofs.Common.{rules, get_or}
use Rattle.std.proofs.lemmas.List.Sorted.{IsNonDecreasingBy-from_sort_by_key}
use Rattle.cil_levels.proofs.definitions.ranked.Goals as goal

pub returns-clause-sorted : goal.returns-clause-sorted
returns-clause-sorted c = IsNonDecreasingBy-from_sort_by_key (λ x. get_or c.args.ranks.now x.set 0) _ c.sort_unstable_by_key.ensures.sorted (λ a r q k. search rules)
