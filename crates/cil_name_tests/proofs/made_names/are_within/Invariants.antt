use Rattle.std.proofs.Common.{◌≡◌, ◌<◌, ◌≤◌, ℕ, Some, slice_get}
use Rattle.cil_names.specs.declared.entry.Entry.{Entry}
use Rattle.cil_name_tests.proofs.made_names.are_within.Given as goal

abbrev pub invariant-loop-entry : goal.invariant-loop-entry
invariant-loop-entry l = (k : ℕ) (e : Entry) → k < l.entry-index → slice_get l.fn.entries k ≡ Some e → e.space ≤ l.most
