use Rattle.std.proofs.Common.{rules, List, ℕ, sym, subst}
use Rattle.std.specs.Ordering.{nat_cmp}
use Rattle.std.specs.Prelude.{Some}
use Rattle.std.specs.List.Sorted.{IsSortedByKey}
use Rattle.std.proofs.lemmas.Cmp.{nat_cmp_total}
use Rattle.std.proofs.lemmas.List.Sorted.{IsPartitionPoint-from_clause}
use Rattle.cil_base.specs.Paths.{same_by}
use Rattle.cil_blocks.specs.Named.{AreOfNumber}
use Rattle.cil_blocks.specs.Numbers.{number_in}
use Rattle.cil_blocks.proofs.RunLemmas.{before_parted, is_before, is_upto, of_key, sorted_left, upto_parted}
use Rattle.cil_blocks.proofs.targets.blocks_in.Goals as goal

abbrev key_in : List ℕ → ℕ → ℕ
key_in numbers b = number_in numbers (Some b)

pub returns : goal.returns
returns c =
    let key = key_in c.args.spaces.now.numbers in
    let k = c.args.space in
    let low =
    IsPartitionPoint-from_clause (is_before key nat_cmp nat_cmp_total same_by k) _ _ c.partition_point-first.ensures.partitioned
    (before_parted key nat_cmp nat_cmp_total same_by k c.args.blocks.now c.requires) (λ a r f' called. search rules) in
    let left : IsSortedByKey key nat_cmp c.from-rest.result.now =
    subst (IsSortedByKey key nat_cmp) (sym c.from-rest.ensures) (sorted_left key nat_cmp nat_cmp_total same_by c.partition_point-first.result c.args.blocks.now c.requires) in
    let high =
    IsPartitionPoint-from_clause (is_upto key nat_cmp nat_cmp_total same_by k) _ _ c.partition_point-count.ensures.partitioned
    (upto_parted key nat_cmp nat_cmp_total same_by k c.from-rest.result.now left) (λ a r f' called. search rules) in
    subst (AreOfNumber c.args.spaces.now.numbers c.args.blocks.now k) (sym c.up_to.ensures)
    (of_key key nat_cmp nat_cmp_total same_by k c.args.blocks.now c.from-rest.result.now c.partition_point-first.result c.partition_point-count.result c.from-rest.ensures low high)
