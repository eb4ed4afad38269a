use Rattle.std.proofs.Common.{◌≤◌, ℕ, List, length}
use Rattle.cil_syntax.specs.Scopes.{names_backwards, scope_at}
use Rattle.cil_syntax.specs.Written.{Written}
use Rattle.cil_blocks.specs.Named.{AreFirstNamed}
use Rattle.cil_blocks.specs.Namespaces.{space_at}
use Rattle.cil_blocks.specs.WrittenSpaces.{AreNumbered}
use Rattle.cil_blocks.proofs.targets.first_named.Given as goal

abbrev pub invariant-loop-space : goal.invariant-loop-space
invariant-loop-space l =
    (l.at ≤ length l.spaces.namespaces)
    × ((ws : List Written) (found : List ℕ) → AreNumbered ws l.spaces.namespaces l.spaces.numbers
    → AreFirstNamed ws l.blocks (names_backwards l.path) (scope_at (space_at l.spaces.namespaces l.at)) found
    → AreFirstNamed ws l.blocks (names_backwards l.path) (scope_at (space_at l.spaces.namespaces l.from)) found)

abbrev pub decreases-loop-space : goal.decreases-loop-space
decreases-loop-space l = l.at
