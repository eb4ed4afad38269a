use Rattle.std.proofs.Common.{rules}
use Rattle.std.proofs.Math.Dec.{ltb}
use Rattle.std.proofs.lemmas.List.Sorted.{IsPartitionPoint-from_clause, IsPartitionedBy-ltb}
use Rattle.cil_classes.proofs.NodeLemmas.{entries_rise, point_below}
use Rattle.cil_classes.proofs.nodes.start_of.Goals as goal

pub returns : goal.returns
returns c =
    point_below c.args.nodes.now c.args.entry c.partition_point.result
    (IsPartitionPoint-from_clause (λ n. ltb n.entry c.args.entry) c.args.nodes.now c.partition_point.result c.partition_point.ensures.partitioned
    (IsPartitionedBy-ltb (λ n. n.entry) c.args.nodes.now c.args.entry (entries_rise c.args.nodes.now c.requires)) (λ a r f' k. search rules))
