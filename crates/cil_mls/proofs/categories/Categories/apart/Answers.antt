use Rattle.std.proofs.Common.{◌<◌, length, arith, ◌∙◌}
use Rattle.std.proofs.lemmas.List.{length-set}
use Rattle.cil_mls.specs.Bits.{differ, in_words}
use Rattle.cil_mls.proofs.BitLemmas.{word_put, xor_word}
use Rattle.cil_mls.proofs.categories.Categories.apart.Goals as goal

pub loop-at-preserved : goal.loop-at-preserved
loop-at-preserved c =
    let l : c.loop-at.at < length c.loop-at.words = omega (arith, c.loop-at-test.true, c.loop-at.invariant.0) in (
      length-set c.loop-at.words c.loop-at.at _ ∙ c.loop-at.invariant.0,
      word_put (λ k. differ (in_words c.args.self.now.words k) (in_words c.args.other.now.words k)) c.loop-at.words c.loop-at.at _ l (xor_word c.args.self.now.words c.args.other.now.words c.loop-at.at) c.loop-at.invariant.1,
    )
