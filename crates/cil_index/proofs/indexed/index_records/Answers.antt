use Rattle.std.proofs.Common.{List, length, subst, sym}
use Rattle.std.specs.List.Sorted.{IsSorted}
use Rattle.cil_index.specs.declared.key.Entry.{Entry}
use Rattle.cil_index.specs.Entries.{AreEntries, entry_cmp}
use Rattle.cil_index.specs.Layout.{AreOfFirst}
use Rattle.cil_index.proofs.IndexLemmas.{index_made}
use Rattle.cil_index.proofs.LayoutLemmas.{of_first, order_is, records_back}
use Rattle.cil_index.proofs.indexed.index_records.Goals as goal

pub laid_out-requires-clause-sorted : goal.laid_out-requires-clause-sorted
laid_out-requires-clause-sorted c = subst (IsSorted entry_cmp) (sym c.as_slice.ensures.value) c.in_ok-entries.ensures.sorted

pub laid_out-requires-clause-within : goal.laid_out-requires-clause-within
laid_out-requires-clause-within c =
    subst (AreOfFirst (length c.args.records.now)) (sym c.as_slice.ensures.value) (of_first c.args.sets.now c.args.records.now c.in_ok-entries.entries.items c.in_ok-entries.ensures)

pub returns-clause-index : goal.returns-clause-index
returns-clause-index c =
    let are = subst (λ (es : List Entry). AreEntries c.args.sets.now c.args.records.now es) (sym c.as_slice.ensures.value) c.in_ok-entries.ensures in record {
      index = index_made c.as_slice.result.now c.in_ok-rules.rules.index c.in_ok-rules.ensures.index c.args.sets.now c.args.records.now c.in_ok-rules.rules.records.items are c.in_ok-rules.ensures.records;
      order = order_is c.args.sets.now c.args.records.now c.as_slice.result.now are c.in_ok-rules.rules.records.items c.in_ok-rules.ensures.records c.in_ok-rules.rules.order.items c.in_ok-rules.ensures.order;
    }

pub returns-clause-records : goal.returns-clause-records
returns-clause-records c =
    records_back c.args.sets.now c.args.records.now c.as_slice.result.now (subst (λ (es : List Entry). AreEntries c.args.sets.now c.args.records.now es) (sym c.as_slice.ensures.value) c.in_ok-entries.ensures)
    c.in_ok-rules.rules.records.items c.in_ok-rules.ensures.records c.in_ok-rules.rules.order.items c.in_ok-rules.ensures.order
