use Rattle.std.proofs.Common.{rules}
use Rattle.std.proofs.Math.Dec.{leb}
use Rattle.std.proofs.lemmas.List.Sorted.{IsPartitionPoint-from_clause, IsPartitionedBy-leb}
use Rattle.cil_classes.proofs.NodeLemmas.{entries_rise, point_up_to}
use Rattle.cil_classes.proofs.nodes.end_of.Goals as goal

pub returns-clause-parts : goal.returns-clause-parts
returns-clause-parts c =
    point_up_to c.args.nodes.now c.args.entry c.partition_point.result
    (IsPartitionPoint-from_clause (λ n. leb n.entry c.args.entry) c.args.nodes.now c.partition_point.result c.partition_point.ensures.partitioned
    (IsPartitionedBy-leb (λ n. n.entry) c.args.nodes.now c.args.entry (entries_rise c.args.nodes.now c.requires)) (λ a r f' k. search rules))
