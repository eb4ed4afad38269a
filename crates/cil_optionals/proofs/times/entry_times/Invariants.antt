use Rattle.std.specs.Prelude.{◌≡◌, ◌<◌, ℕ, length, take}
use Rattle.cil_names.specs.Entries.{is_declared_at}
use Rattle.cil_optionals.specs.Times.{after}
use Rattle.cil_optionals.proofs.times.entry_times.Given as goal

abbrev pub invariant-loop-entry : goal.invariant-loop-entry
invariant-loop-entry l =
    (length l.all.items ≡ l.entry-index) × ((k d : ℕ) → k < l.top → after l.all.items k d ≡ is_declared_at (after l.times k) (take l.entry-index l.entries) d)
