use Rattle.std.proofs.Common.{ℕ, ◌-◌, ◌<◌, ◌≤◌, List, length, take, drop}
use Rattle.std.specs.Prelude.{Contains}
use Rattle.cil_modset.specs.Modules.{IsBelow}
use Rattle.cil_modset.specs.Rows.{joined}
use Rattle.cil_modset.proofs.rows.home_of.Given as goal

abbrev pub invariant-loop-home : goal.invariant-loop-home
invariant-loop-home l = record {
  some : l.home < l.end;
  within : l.end ≤ length l.rows;
  before : (t : List ℕ) → Contains (joined (take l.home l.rows)) t → IsBelow t l.text;
  behind : (t : List ℕ) → Contains (joined (drop l.end l.rows)) t → IsBelow l.text t;
}

abbrev pub decreases-loop-home : goal.decreases-loop-home
decreases-loop-home l = l.end - l.home
