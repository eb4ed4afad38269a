use Rattle.std.proofs.Common.{arith}
use Rattle.cil_base.specs.Places.{there_as}
use Rattle.cil_labels.specs.Rows.{IsAliasRow}
use Rattle.cil_labels.proofs.RowLemmas.{alias_more, all_below}
use Rattle.cil_labels.proofs.index.push_aliases.Goals as goal

pub loop-alias-preserved : goal.loop-alias-preserved
loop-alias-preserved c =
    alias_more c.args.aliases.now c.loop-alias.alias-index c.alias-item.result c.as_slice.result.now c.args.rows.now.items c.loop-alias.rows.items _
    (there_as c.args.aliases.now c.loop-alias.alias-index c.alias-item.result c.loop-alias-test.true c.alias-item.is) c.as_slice.ensures c.loop-alias.invariant c.in_ok-push_row.ensures

pub returns : goal.returns
returns c =
    let over = c.loop-alias-test.false in
    let end = c.loop-alias.auto.alias-index-end in
    all_below (IsAliasRow c.args.aliases.now) c.loop-alias.alias-index _ _ _ (omega (arith, over, end)) c.loop-alias.invariant
