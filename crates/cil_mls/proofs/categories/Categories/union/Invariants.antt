use Rattle.std.specs.Prelude.{length, ◌≡◌, ℕ, ◌<◌, ◌*◌, ◌||◌}
use Rattle.cil_mls.specs.Bits.{in_words}
use Rattle.cil_mls.proofs.categories.Categories.union.Given as goal

abbrev pub invariant-loop-at : goal.invariant-loop-at
invariant-loop-at l = (length l.words ≡ 16) × ((c : ℕ) → c < l.at * 64 → in_words l.words c ≡ (in_words l.self.words c || in_words l.other.words c))
