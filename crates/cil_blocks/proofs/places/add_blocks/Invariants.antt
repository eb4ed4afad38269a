use Rattle.std.proofs.Common.{◌≡◌, List, []}
use Rattle.cil_blocks.specs.declared.namespaces.Space.{Space}
use Rattle.cil_blocks.specs.Numbers.{with_numbers}
use Rattle.cil_blocks.specs.Places.{reached_at}
use Rattle.cil_blocks.specs.Placing.{numbers_left}
use Rattle.cil_blocks.proofs.places.add_blocks.Given as goal

abbrev pub invariant-loop-place : goal.invariant-loop-place
invariant-loop-place l =
    (ss : List Space) → with_numbers l.scope (numbers_left ss (reached_at l.kept l.at) l.left.items) ≡ with_numbers l.fn.scope (numbers_left ss (reached_at l.kept l.fn.number) [])

abbrev pub decreases-loop-place : goal.decreases-loop-place
decreases-loop-place l = l.at
