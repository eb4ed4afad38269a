use Rattle.std.proofs.lemmas.List.Elements.{Contains-get_or}
use Rattle.cil_index.specs.Layout.{record_of_entry}
use Rattle.cil_index.proofs.IndexLemmas.{column_all, column_more, column_none}
use Rattle.cil_index.proofs.indexed.records_in.Goals as goal

pub bounds-records-entry : goal.bounds-records-entry
bounds-records-entry c = c.requires _ (Contains-get_or c.args.entries.now c.loop-entry.entry-index _ c.loop-entry-test.true)

pub loop-entry-init : goal.loop-entry-init
loop-entry-init c = column_none (record_of_entry c.args.records.now) c.args.entries.now _ c.in_ok-laid.ensures.items

pub loop-entry-preserved : goal.loop-entry-preserved
loop-entry-preserved c =
    column_more (record_of_entry c.args.records.now) c.args.entries.now c.loop-entry.entry-index _ _ _ c.loop-entry-test.true c.in_ok-push.ensures.items c.loop-entry.invariant

pub returns : goal.returns
returns c = column_all (record_of_entry c.args.records.now) c.args.entries.now c.loop-entry.entry-index _ c.loop-entry-test.false c.loop-entry.auto.entry-index-end c.loop-entry.invariant
