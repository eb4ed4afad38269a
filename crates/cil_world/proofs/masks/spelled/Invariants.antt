use Rattle.std.specs.Prelude.{ℕ, List}
use Rattle.cil_host.specs.Machine.{State}
use Rattle.cil_host.specs.Permissions.{AreNamesOf}
use Rattle.cil_world.proofs.MaskLemmas.{AreShown}
use Rattle.cil_world.proofs.masks.spelled.Given as goal

abbrev pub invariant-loop-bit : goal.invariant-loop-bit
invariant-loop-bit l = (h : State) (class_ : List ℕ) → AreNamesOf h class_ l.names → AreShown h class_ l.mask l.bit l.text.items l.is_first
