use Rattle.std.specs.Prelude.{◌≡◌, ℕ, ◌<◌, ◌*◌, true}
use Rattle.cil_mls.specs.Bits.{in_words}
use Rattle.cil_mls.proofs.categories.Categories.include.Given as goal

abbrev pub invariant-loop-at : goal.invariant-loop-at
invariant-loop-at l = (c : ℕ) → c < l.at * 64 → in_words l.other.words c ≡ true → in_words l.self.words c ≡ true
