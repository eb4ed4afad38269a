-- cil_words/proofs/settled_rows/meanings_of/Invariants.antt
use Rattle.std.proofs.Common.{◌≡◌, map, take}
use Rattle.cil_names.specs.Entries.{is_in}
use Rattle.cil_words.specs.Table.{ask_value}
use Rattle.cil_words.proofs.settled_rows.meanings_of.Given as goal

abbrev pub invariant-loop-place : goal.invariant-loop-place
invariant-loop-place l = l.words.items ≡ map (ask_value (is_in l.declared)) (take l.place l.cells)
