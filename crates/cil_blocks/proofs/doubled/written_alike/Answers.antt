use Rattle.std.proofs.Common.{rules, sym, subst}
use Rattle.std.specs.List.Sorted.{IsSortedByKey}
use Rattle.std.proofs.lemmas.List.Sorted.{IsPartitionPoint-from_clause}
use Rattle.cil_blocks.specs.Doubled.{AreAlike}
use Rattle.cil_blocks.specs.WrittenSpaces.{numbered_cmp, numbered_name}
use Rattle.cil_blocks.proofs.RunLemmas.{before_parted, is_before, is_upto, numbered_total, of_key, one_name, sorted_left, upto_parted}
use Rattle.cil_blocks.proofs.doubled.written_alike.Goals as goal

pub returns : goal.returns
returns c =
    let nested = c.requires.nested in
    let key = numbered_name c.args.statements.now c.args.spaces.now.numbers in
    let k = key c.args.number in
    let low =
    IsPartitionPoint-from_clause (is_before key numbered_cmp numbered_total one_name k) _ _ c.partition_point-first.ensures.partitioned
    (before_parted key numbered_cmp numbered_total one_name k c.args.numbers.now c.requires.sorted) (λ a r f' called. search (rules, nested)) in
    let left : IsSortedByKey key numbered_cmp c.from-rest.result.now =
    subst (IsSortedByKey key numbered_cmp) (sym c.from-rest.ensures)
    (sorted_left key numbered_cmp numbered_total one_name c.partition_point-first.result c.args.numbers.now c.requires.sorted) in
    let high =
    IsPartitionPoint-from_clause (is_upto key numbered_cmp numbered_total one_name k) _ _ c.partition_point-count.ensures.partitioned
    (upto_parted key numbered_cmp numbered_total one_name k c.from-rest.result.now left) (λ a r f' called. search (rules, nested)) in
    subst (AreAlike key c.args.numbers.now c.args.number) (sym c.up_to.ensures)
    (of_key key numbered_cmp numbered_total one_name k c.args.numbers.now c.from-rest.result.now c.partition_point-first.result c.partition_point-count.result c.from-rest.ensures low high)
