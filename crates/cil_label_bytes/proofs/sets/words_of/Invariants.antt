use Rattle.std.proofs.Common.{◌≡◌, ℕ, ◌<◌, take}
use Rattle.cil_base.specs.Among.{among}
use Rattle.cil_mls.specs.Bits.{in_words}
use Rattle.cil_label_bytes.proofs.sets.words_of.Given as goal

abbrev pub invariant-loop-number : goal.invariant-loop-number
invariant-loop-number l = (c : ℕ) → c < 1024 → in_words l.set.words c ≡ among (take l.number-index l.numbers) c
