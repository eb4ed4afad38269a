use Rattle.std.proofs.Common.{rules}
use Rattle.std.proofs.Math.Dec.{ltb}
use Rattle.std.proofs.lemmas.List.Sorted.{IsPartitionPoint-from_clause, IsPartitionedBy-ltb}
use Rattle.cil_settle.proofs.RowLemmas.{point_below}
use Rattle.cil_settle.proofs.edge.start_of.Goals as goal

pub returns-clause-parts : goal.returns-clause-parts
returns-clause-parts c =
    point_below c.args.edges.now c.args.from c.partition_point.result
    (IsPartitionPoint-from_clause (λ e. ltb e.from c.args.from) c.args.edges.now c.partition_point.result c.partition_point.ensures.partitioned
    (IsPartitionedBy-ltb (λ e. e.from) c.args.edges.now c.args.from c.requires) (λ a r f' k. search rules))
