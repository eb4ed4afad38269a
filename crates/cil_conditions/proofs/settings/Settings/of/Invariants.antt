use Rattle.cil_conditions.specs.Bits.{IsSetTo}
use Rattle.cil_conditions.proofs.settings.Settings.of.Given as goal

abbrev pub invariant-loop-place : goal.invariant-loop-place
invariant-loop-place l = IsSetTo l.values l.place l.settings
