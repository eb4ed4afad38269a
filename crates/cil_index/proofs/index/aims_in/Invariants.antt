use Rattle.cil_index.proofs.IndexLemmas.{IsFirstColumn}
use Rattle.cil_index.proofs.index.aims_in.Given as goal

abbrev pub invariant-loop-entry : goal.invariant-loop-entry
invariant-loop-entry l = IsFirstColumn (λ e. e.aim) l.entries l.entry-index l.aims.items
