use Rattle.std.proofs.Common.{◌≡◌, ℕ, drop}
use Rattle.cil_names.proofs.WordedLemmas.{word_among}
use Rattle.cil_names.proofs.worded.+words.Given as goal

abbrev pub invariant-has_word-loop-term : goal.invariant-has_word-loop-term
invariant-has_word-loop-term l = (m : ℕ) → word_among m l.terms ≡ word_among m (drop l.term-index l.terms)
