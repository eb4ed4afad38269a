use Rattle.std.proofs.Common.{[], length, ◌++◌, ap, sym}
use Rattle.std.specs.Int.{w32, to_be_bytes}
use Rattle.std.proofs.lemmas.List.{get_or_read}
use Rattle.cil_format.proofs.OutLemmas.{two_pieces}
use Rattle.cil_tables.specs.Holders.{links_from}
use Rattle.cil_table_bytes.specs.Layout.{links}
use Rattle.cil_table_bytes.specs.Told.{links_bytes}
use Rattle.cil_table_bytes.proofs.WriteLemmas.{none_put, row_put, rows_put}
use Rattle.cil_table_bytes.proofs.put_links.put_links.Goals as goal

pub loop-holder-preserved : goal.loop-holder-preserved
loop-holder-preserved g c = λ before h.
    row_put g.O.Out.holds c.rows-rows.result.now (before ++ to_be_bytes w32 (length (links_from 0 c.rows-rows.result.now))) c.loop-holder.holder c.index-rows-holder.result c.loop-holder.out c.give_row.new.out
    c.loop-holder-test.true (get_or_read c.rows-rows.result.now c.loop-holder.holder c.index-rows-holder.result c.loop-holder-test.true c.index-rows-holder.is []) c.in_ok-give_row.ensures
    (c.loop-holder.invariant before h)

pub returns : goal.returns
returns g c = λ before h.
    let all = links_from 0 c.rows-rows.result.now in
    let count = to_be_bytes w32 (length all) in
    two_pieces g.O.Out.holds c.loop-holder.out before count (links_bytes all) ((links 0 0).spell c.args.links.now) (ap (links 0 0).spell (sym c.rows-rows.ensures.links))
    (rows_put g.O.Out.holds c.rows-rows.result.now (before ++ count) c.loop-holder.holder c.loop-holder.out c.loop-holder-test.false (c.loop-holder.invariant before h))
