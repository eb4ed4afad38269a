use Rattle.std.specs.Prelude.{take}
use Rattle.cil_macros.specs.Items.{items_in}
use Rattle.cil_levels.specs.Permits.{HaveMore, PermitsAmong}
use Rattle.cil_levels.proofs.permits.permit_all.Given as goal

abbrev pub invariant-loop-at : goal.invariant-loop-at
invariant-loop-at l = HaveMore l.fn.sets.items l.sets.items (PermitsAmong l.known l.standing l.places l.by.held.now l.by.count (take l.at (items_in l.instances)))
