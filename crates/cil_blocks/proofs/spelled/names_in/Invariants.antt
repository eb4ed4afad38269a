use Rattle.std.proofs.Common.{◌≡◌, ◌≤◌, ◌++◌, length}
use Rattle.cil_syntax.specs.Around.{names_of}
use Rattle.cil_blocks.specs.Namespaces.{space_at}
use Rattle.cil_blocks.proofs.spelled.names_in.Given as goal

abbrev pub invariant-loop-space : goal.invariant-loop-space
invariant-loop-space l =
    (l.at ≤ length l.namespaces) × (names_of l.names.items ++ space_at l.namespaces l.at ≡ space_at l.namespaces l.number)

abbrev pub decreases-loop-space : goal.decreases-loop-space
decreases-loop-space l = l.at
