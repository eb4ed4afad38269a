use Rattle.std.proofs.Common.{rules, sym, subst}
use Rattle.std.specs.List.Sorted.{IsSortedByKey}
use Rattle.std.proofs.lemmas.List.Sorted.{IsPartitionPoint-from_clause}
use Rattle.std.proofs.lemmas.Cmp.{nat_list_cmp_total}
use Rattle.std.proofs.lemmas.Map.Lookups.{exact_bytes}
use Rattle.cil_syntax.specs.Program.{program_of}
use Rattle.cil_blocks.specs.Doubled.{AreAlike}
use Rattle.cil_base.specs.Lists.{text_cmp}
use Rattle.cil_blocks.specs.Seeds.{own_name}
use Rattle.cil_blocks.proofs.RunLemmas.{before_parted, is_before, is_upto, of_key, sorted_left, upto_parted}
use Rattle.cil_blocks.proofs.seeds.alike_in.Goals as goal

pub returns : goal.returns
returns c =
    let nested = c.requires.nested in
    let k = own_name (program_of c.args.statements.now) c.args.number in
    let low =
    IsPartitionPoint-from_clause (is_before (own_name (program_of c.args.statements.now)) text_cmp nat_list_cmp_total exact_bytes k) _ _ c.partition_point-first.ensures.partitioned
    (before_parted (own_name (program_of c.args.statements.now)) text_cmp nat_list_cmp_total exact_bytes k c.args.numbers.now c.requires.sorted) (λ a r f' called. search (rules, nested)) in
    let left : IsSortedByKey (own_name (program_of c.args.statements.now)) text_cmp c.from-rest.result.now =
    subst (IsSortedByKey (own_name (program_of c.args.statements.now)) text_cmp) (sym c.from-rest.ensures)
    (sorted_left (own_name (program_of c.args.statements.now)) text_cmp nat_list_cmp_total exact_bytes c.partition_point-first.result c.args.numbers.now c.requires.sorted) in
    let high =
    IsPartitionPoint-from_clause (is_upto (own_name (program_of c.args.statements.now)) text_cmp nat_list_cmp_total exact_bytes k) _ _ c.partition_point-count.ensures.partitioned
    (upto_parted (own_name (program_of c.args.statements.now)) text_cmp nat_list_cmp_total exact_bytes k c.from-rest.result.now left) (λ a r f' called. search (rules, nested)) in
    subst (AreAlike (own_name (program_of c.args.statements.now)) c.args.numbers.now c.args.number) (sym c.up_to.ensures)
    (of_key (own_name (program_of c.args.statements.now)) text_cmp nat_list_cmp_total exact_bytes k c.args.numbers.now c.from-rest.result.now c.partition_point-first.result
    c.partition_point-count.result c.from-rest.ensures low high)
