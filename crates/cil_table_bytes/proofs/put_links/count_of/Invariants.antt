use Rattle.cil_table_bytes.proofs.WriteLemmas.{IsCountedTo}
use Rattle.cil_table_bytes.proofs.put_links.count_of.Given as goal

abbrev pub invariant-loop-holder : goal.invariant-loop-holder
invariant-loop-holder l = IsCountedTo l.rows l.holder l.count
