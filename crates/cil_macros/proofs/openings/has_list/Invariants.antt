use Rattle.cil_macros.specs.Meant.{is_list}
use Rattle.cil_macros.proofs.AnyLemmas.{IsLeft}
use Rattle.cil_macros.proofs.openings.has_list.Given as goal

abbrev pub invariant-loop-argument : goal.invariant-loop-argument
invariant-loop-argument l = IsLeft is_list l.arguments l.argument-index
