use Rattle.std.proofs.Common.{◌≡◌, drop}
use Rattle.cil_syntax.specs.Said.{all_said}
use Rattle.cil_blocks.specs.Branches.{branch_value, last_value}
use Rattle.cil_macros.proofs.branches.branch_value.Given as goal

abbrev pub invariant-loop-term : goal.invariant-loop-term
invariant-loop-term l =
    last_value l.value (all_said l.statement.at.«module» (drop l.term-index l.term-items)) l.at ≡ branch_value (all_said l.statement.at.«module» l.term-items) l.at
