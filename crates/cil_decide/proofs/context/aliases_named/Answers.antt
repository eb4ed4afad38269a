use Rattle.std.proofs.Common.{◌≡◌, ◌-◌, arith, drop, length, rules, sym, subst, take}
use Rattle.std.specs.List.Sorted.{IsSortedByKey}
use Rattle.std.proofs.lemmas.List.{length-drop, take_all}
use Rattle.std.proofs.lemmas.List.Sorted.{IsPartitionPoint-from_clause}
use Rattle.std.proofs.lemmas.Cmp.{nat_list_cmp_total}
use Rattle.std.proofs.lemmas.Map.Lookups.{exact_bytes}
use Rattle.cil_base.specs.Lists.{text_cmp}
use Rattle.cil_tables.proofs.blocks_lemmas.RunLemmas.{before_parted, is_before, is_upto, of_key, sorted_left, upto_parted}
use Rattle.cil_decide.proofs.ContextParts.{name_of_alias, names_rise}
use Rattle.cil_decide.proofs.context.aliases_named.Goals as goal

pub returns : goal.returns
returns c =
    let aliases = c.args.aliases.now in
    let name = c.args.name.now in
    let sorted = names_rise aliases c.requires in
    let whole : take (length aliases - c.partition_point-first.result) (drop c.partition_point-first.result aliases) ≡ drop c.partition_point-first.result aliases =
    take_all _ _ (let e = length-drop c.partition_point-first.result aliases in omega (arith, e)) in
    let low =
    IsPartitionPoint-from_clause (is_before name_of_alias text_cmp nat_list_cmp_total exact_bytes name) _ _ c.partition_point-first.ensures.partitioned
    (before_parted name_of_alias text_cmp nat_list_cmp_total exact_bytes name aliases sorted) (λ a r f' called. search rules) in
    let left = subst (IsSortedByKey name_of_alias text_cmp) (sym whole) (sorted_left name_of_alias text_cmp nat_list_cmp_total exact_bytes c.partition_point-first.result aliases sorted) in
    let high =
    IsPartitionPoint-from_clause (is_upto name_of_alias text_cmp nat_list_cmp_total exact_bytes name) _ _ c.partition_point-count.ensures.partitioned
    (upto_parted name_of_alias text_cmp nat_list_cmp_total exact_bytes name _ left) (λ a r f' called. search rules) in
    of_key name_of_alias text_cmp nat_list_cmp_total exact_bytes name aliases _ c.partition_point-first.result c.partition_point-count.result whole low high
