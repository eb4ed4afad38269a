use Rattle.std.specs.Prelude.{◌≡◌, ◌<◌, ℕ, Some, length, slice_get}
use Rattle.cil_known.specs.names.Entry.{Entry}
use Rattle.cil_known.specs.Known.{enabled_in}
use Rattle.cil_attrs.specs.Begun.{begun_as}
use Rattle.cil_attrs.proofs.beginning.begun.Given as goal

abbrev pub invariant-loop-d : goal.invariant-loop-d
invariant-loop-d l =
    (length l.held.items ≡ l.d)
    × ((k : ℕ) (e : Entry) → k < l.d → slice_get l.known.lookup.names.now k ≡ Some e → slice_get l.held.items k ≡ Some (begun_as l.space (enabled_in l.known) l.known.numbers.now k e))
