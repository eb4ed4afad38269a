use Rattle.std.proofs.Common.{◌≡◌, ℕ}
use Rattle.cil_syntax.specs.Shapes.{set_of}
use Rattle.cil_macros.proofs.ListLemmas.{among}
use Rattle.cil_macros.proofs.list_arguments.+sets.Given as goal

abbrev pub invariant-are_sets-loop-index : goal.invariant-are_sets-loop-index
invariant-are_sets-loop-index l = (n : ℕ) → among n (set_of l.fn.sign) l.items l.fn.skipped ≡ among n (set_of l.fn.sign) l.items l.index
