use Rattle.std.specs.Prelude.{take}
use Rattle.cil_levels.specs.Permits.{HaveMore}
use Rattle.cil_levels.proofs.PermitLemmas.{AtSome}
use Rattle.cil_levels.proofs.permits.add_all.Given as goal

abbrev pub invariant-loop-number : goal.invariant-loop-number
invariant-loop-number l = HaveMore l.fn.sets.items l.sets.items (AtSome l.places l.more (take l.number-index l.numbers))
