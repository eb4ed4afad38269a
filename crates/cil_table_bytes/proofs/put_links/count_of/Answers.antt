use Rattle.std.proofs.Common.{[], arith, rules}
use Rattle.std.proofs.lemmas.List.{get_or_read}
use Rattle.cil_table_bytes.proofs.WriteLemmas.{all_counted, row_counted}
use Rattle.cil_table_bytes.proofs.put_links.count_of.Goals as goal

pub loop-holder-preserved : goal.loop-holder-preserved
loop-holder-preserved c =
    row_counted c.args.rows.now c.loop-holder.holder c.index-rows-holder.result c.loop-holder.count _ c.loop-holder-test.true
    (get_or_read c.args.rows.now c.loop-holder.holder c.index-rows-holder.result c.loop-holder-test.true c.index-rows-holder.is []) (search (rules, arith)) c.loop-holder.invariant

pub returns : goal.returns
returns c = all_counted c.args.rows.now c.loop-holder.holder c.loop-holder.count c.loop-holder-test.false c.loop-holder.invariant
