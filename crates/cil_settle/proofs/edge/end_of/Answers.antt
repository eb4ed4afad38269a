use Rattle.std.proofs.Common.{rules}
use Rattle.std.proofs.Math.Dec.{leb}
use Rattle.std.proofs.lemmas.List.Sorted.{IsPartitionPoint-from_clause, IsPartitionedBy-leb}
use Rattle.cil_settle.proofs.RowLemmas.{point_up_to}
use Rattle.cil_settle.proofs.edge.end_of.Goals as goal

pub returns-clause-parts : goal.returns-clause-parts
returns-clause-parts c =
    point_up_to c.args.edges.now c.args.from c.partition_point.result
    (IsPartitionPoint-from_clause (λ e. leb e.from c.args.from) c.args.edges.now c.partition_point.result c.partition_point.ensures.partitioned
    (IsPartitionedBy-leb (λ e. e.from) c.args.edges.now c.args.from c.requires) (λ a r f' k. search rules))
