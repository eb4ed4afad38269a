use Rattle.std.specs.Prelude.{◌≡◌, ℕ, drop, length, take}
use Rattle.cil_known.proofs.LeafLemmas.{all_leaves}
use Rattle.cil_known.proofs.meanings_behind.+words.Given as goal

abbrev pub invariant-behind_words-loop-term : goal.invariant-behind_words-loop-term
invariant-behind_words-loop-term l = (m : ℕ) → l.rest ≡ drop (length (all_leaves m (take l.term-index l.terms))) l.words
