use Rattle.std.specs.Prelude.{◌≡◌, ◌<◌, ℕ, Some, slice_get, true}
use Rattle.cil_optionals.specs.Parts.{Part, is_well, parts_in}
use Rattle.cil_optionals.specs.Times.{after, names_after}
use Rattle.cil_optionals.proofs.checking.Check.are_well.Given as goal

abbrev pub invariant-loop-at : goal.invariant-loop-at
invariant-loop-at l =
    (k : ℕ) (p : Part) → k < l.at → slice_get (parts_in l.self.parts.now) k ≡ Some p → is_well (after l.self.times.now l.steps) (names_after l.self.entries.now l.steps) k p ≡ true
