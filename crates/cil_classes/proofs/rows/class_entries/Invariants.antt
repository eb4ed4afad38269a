use Rattle.std.specs.Prelude.{◌≡◌, length}
use Rattle.cil_names.specs.Entries.{is_in}
use Rattle.cil_classes.specs.ClassRows.{AreClassEntries}
use Rattle.cil_classes.proofs.rows.class_entries.Given as goal

abbrev pub invariant-loop-d : goal.invariant-loop-d
invariant-loop-d l =
    (length l.places.items ≡ length l.fn.numbering.sections.classes.items)
    × AreClassEntries l.fn.lookup.names.now (is_in l.fn.lookup.enabled.now) l.fn.numbering.numbers.items l.d l.places.items
