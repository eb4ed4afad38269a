use Rattle.std.specs.Prelude.{take}
use Rattle.cil_attrs.specs.macros.Items.{items_in}
use Rattle.cil_attrs.specs.known.Known.{enabled_in}
use Rattle.cil_mls.proofs.SwitchLemmas.{NoneSwitches}
use Rattle.cil_mls.proofs.switch.is_switched.Given as goal

abbrev pub invariant-loop-at : goal.invariant-loop-at
invariant-loop-at l = NoneSwitches (enabled_in l.known) l.on (take l.at (items_in l.instances))
