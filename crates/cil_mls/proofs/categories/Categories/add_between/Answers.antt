use Rattle.std.proofs.Common.{◌<◌, length, arith}
use Rattle.cil_mls.proofs.BitLemmas.{range_bits, word_added}
use Rattle.cil_mls.proofs.categories.Categories.add_between.Goals as goal

pub loop-at-preserved : goal.loop-at-preserved
loop-at-preserved c =
    let l : c.loop-at.at < length c.args.self.now.words = omega (arith, c.loop-at-test.true, c.well_formed) in
    word_added c.args.self.now.words c.args.first c.args.last c.loop-at.at c.bits_between-word.result c.loop-at.self.words l
    (range_bits c.args.first c.args.last c.loop-at.at c.bit_in.result c.bit_in-in-loop-at.result c.bits_between-word.result c.bit_in.ensures.less c.bit_in-in-loop-at.ensures.less c.bits_between-word.ensures)
    c.loop-at.invariant
