use Rattle.std.proofs.Common.{sym}
use Rattle.std.proofs.lemmas.List.{append-nil}
use Rattle.cil_declare.specs.Runs.{row_faults}
use Rattle.cil_declare.proofs.Lists.{gave_all_behind, gave_more_behind}
use Rattle.cil_declare.proofs.clash.push_rows.Goals as goal

pub loop-row-init : goal.loop-row-init
loop-row-init c = sym (append-nil _)

pub push_row-requires : goal.push_row-requires
push_row-requires c = c.requires _ (c.loop-row.row-index, c.loop-row-test.true, sym c.row-item.is)

pub loop-row-preserved : goal.loop-row-preserved
loop-row-preserved c =
    gave_more_behind (row_faults c.args.instances.now) _ _ _ _ _ _ c.loop-row-test.true c.row-item.is c.loop-row.invariant c.in_ok-push_row.ensures

pub returns : goal.returns
returns c = gave_all_behind (row_faults c.args.instances.now) _ _ _ _ c.loop-row.invariant c.loop-row-test.false
