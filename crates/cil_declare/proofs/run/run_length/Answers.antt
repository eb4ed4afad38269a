use Rattle.std.proofs.Common.{rules}
use Rattle.std.proofs.lemmas.List.Sorted.{IsPartitionPoint-from_clause}
use Rattle.cil_declare.proofs.RunLemmas.{first_within, is_upto, keys_above, parted, same_keys}
use Rattle.cil_declare.proofs.run.run_length.Goals as goal

pub returns-clause-first : goal.returns-clause-first
returns-clause-first c =
    let point = IsPartitionPoint-from_clause (is_upto c.args.first.now) _ _ c.partition_point.ensures.partitioned (parted c.args.first.now c.args.rest.now c.requires.sorted) (λ a r f' k. search rules) in
    first_within c.args.first.now c.args.rest.now c.requires.sorted _ c.partition_point.ensures.bound c.requires.some c.requires.first point

pub returns-clause-same : goal.returns-clause-same
returns-clause-same c =
    let point = IsPartitionPoint-from_clause (is_upto c.args.first.now) _ _ c.partition_point.ensures.partitioned (parted c.args.first.now c.args.rest.now c.requires.sorted) (λ a r f' k. search rules) in
    same_keys c.args.first.now c.args.rest.now c.requires.sorted _ c.partition_point.ensures.bound c.requires.some c.requires.first point

pub returns-clause-above : goal.returns-clause-above
returns-clause-above c =
    let point = IsPartitionPoint-from_clause (is_upto c.args.first.now) _ _ c.partition_point.ensures.partitioned (parted c.args.first.now c.args.rest.now c.requires.sorted) (λ a r f' k. search rules) in
    keys_above c.args.first.now c.args.rest.now c.requires.sorted _ c.partition_point.ensures.bound c.requires.some c.requires.first point
