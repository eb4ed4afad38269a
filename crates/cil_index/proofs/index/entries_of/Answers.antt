use Rattle.cil_index.proofs.IndexLemmas.{entries_sorted}
use Rattle.cil_index.proofs.index.entries_of.Goals as goal

pub returns : goal.returns
returns c = entries_sorted c.args.sets.now c.args.records.now _ _ c.in_ok-entries.ensures c.sort_unstable.ensures.permutation c.sort_unstable.ensures.sorted
