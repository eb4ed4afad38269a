use Rattle.cil_index.specs.Layout.{record_of_entry}
use Rattle.cil_index.proofs.IndexLemmas.{IsFirstColumn}
use Rattle.cil_index.proofs.indexed.records_in.Given as goal

abbrev pub invariant-loop-entry : goal.invariant-loop-entry
invariant-loop-entry l = IsFirstColumn (record_of_entry l.records) l.entries l.entry-index l.laid.items
