use Rattle.std.proofs.Common.{◌≡◌, ℕ}
use Rattle.cil_syntax.specs.Shapes.{looked_up}
use Rattle.cil_macros.proofs.ListLemmas.{among}
use Rattle.cil_macros.proofs.list_arguments.are_words.Given as goal

abbrev pub invariant-loop-index : goal.invariant-loop-index
invariant-loop-index l = (n : ℕ) → among n (looked_up l.sign) l.items l.skipped ≡ among n (looked_up l.sign) l.items l.index
