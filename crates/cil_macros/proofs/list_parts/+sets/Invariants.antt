use Rattle.cil_syntax.specs.Shapes.{set_of}
use Rattle.cil_macros.proofs.AskLemmas.{ArePut}
use Rattle.cil_macros.proofs.list_parts.+sets.Given as goal

abbrev pub invariant-push_sets-loop-index : goal.invariant-push_sets-loop-index
invariant-push_sets-loop-index l = ArePut (set_of l.sign) l.«module» l.items l.fn.skipped l.fn.parts.items l.index l.parts.items
