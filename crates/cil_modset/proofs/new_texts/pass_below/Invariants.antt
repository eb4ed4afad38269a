use Rattle.std.proofs.Common.{length, ◌-◌, ℕ, ◌<◌, ◌≤◌}
use Rattle.cil_modset.specs.Modules.{IsBelow, module_of}
use Rattle.cil_modset.proofs.new_texts.pass_below.Given as goal

abbrev pub invariant-loop-at : goal.invariant-loop-at
invariant-loop-at l = record {
  onward : l.from ≤ l.at;
  within : l.at ≤ length l.ours;
  below : (k : ℕ) → l.from ≤ k → k < l.at → IsBelow (module_of l.ours k) l.text;
}

abbrev pub decreases-loop-at : goal.decreases-loop-at
decreases-loop-at l = length l.ours - l.at
