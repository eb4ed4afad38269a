use Rattle.std.proofs.Common.{◌≡◌, drop}
use Rattle.std.specs.Prelude.{find}
use Rattle.cil_names.specs.Entries.{is_in}
use Rattle.cil_words.proofs.settled_rows.first_declared.Given as goal

abbrev pub invariant-loop-entry : goal.invariant-loop-entry
invariant-loop-entry l = find (is_in l.declared) (drop l.entry-index l.list) ≡ find (is_in l.declared) l.list
