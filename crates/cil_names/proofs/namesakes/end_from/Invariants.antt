use Rattle.std.proofs.Common.{◌<◌, ◌≤◌, ℕ}
use Rattle.cil_names.specs.Soles.{IsNamedAt}
use Rattle.cil_names.proofs.namesakes.end_from.Given as goal

abbrev pub invariant-loop-end : goal.invariant-loop-end
invariant-loop-end l = (l.first < l.end) × ((m : ℕ) → l.first ≤ m → m < l.end → IsNamedAt l.entries (record { name = l.name; rank = l.rank }) m)
