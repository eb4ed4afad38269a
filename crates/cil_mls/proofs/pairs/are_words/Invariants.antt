use Rattle.std.proofs.Common.{◌≡◌, ℕ, drop}
use Rattle.cil_syntax.specs.Said.{all_said}
use Rattle.cil_mls.specs.Pairs.{are_words}
use Rattle.cil_mls.proofs.pairs.are_words.Given as goal

abbrev pub invariant-loop-part : goal.invariant-loop-part
invariant-loop-part l = (m : ℕ) → are_words (all_said m (drop l.part-index l.parts)) ≡ are_words (all_said m l.parts)
