use Rattle.cil_syntax.specs.Shapes.{looked_up}
use Rattle.cil_macros.proofs.AskLemmas.{ArePut}
use Rattle.cil_macros.proofs.list_parts.push_words.Given as goal

abbrev pub invariant-loop-index : goal.invariant-loop-index
invariant-loop-index l = ArePut (looked_up l.sign) l.«module» l.items l.fn.skipped l.fn.parts.items l.index l.parts.items
