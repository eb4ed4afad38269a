use Rattle.std.specs.Prelude.{◌≡◌, ◌<◌, ℕ, ltb, take}
use Rattle.std.specs.List.{list_all}
use Rattle.cil_optionals.specs.Times.{after}
use Rattle.cil_optionals.proofs.times.earliest.Given as goal

abbrev pub invariant-loop-optional : goal.invariant-loop-optional
invariant-loop-optional l = (k : ℕ) → k < l.top → ltb k l.least ≡ list_all (after l.times k) (take l.optional-index l.round)
