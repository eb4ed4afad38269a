use Rattle.cil_index.proofs.IndexLemmas.{HasFirst}
use Rattle.cil_index.proofs.index.unsorted.Given as goal

abbrev pub invariant-loop-place : goal.invariant-loop-place
invariant-loop-place l = HasFirst l.sets l.records l.place l.entries.items
