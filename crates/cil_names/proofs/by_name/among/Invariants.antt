use Rattle.std.proofs.Common.{◌≡◌, ◌≤◌, ℕ, true}
use Rattle.std.specs.Prelude.{Some, slice_get}
use Rattle.cil_names.specs.declared.entry.Entry.{Entry}
use Rattle.cil_names.specs.Entries.{is_entry}
use Rattle.cil_names.proofs.by_name.among.Given as goal

abbrev pub invariant-loop-place : goal.invariant-loop-place
invariant-loop-place l =
    (l.fn.same.first ≤ l.place) × ((m : ℕ) (e : Entry) → slice_get l.entries m ≡ Some e → is_entry l.name l.sign l.space e ≡ true → l.place ≤ m)
