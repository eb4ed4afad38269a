use Rattle.std.proofs.Common.{◌∙◌}
use Rattle.cil_classes.proofs.MaskLemmas.{bits_whole, more_bits}
use Rattle.cil_classes.proofs.mask.bits_of.Goals as goal

pub loop-number-preserved : goal.loop-number-preserved
loop-number-preserved c = λ bit. more_bits c.args.numbers.now c.loop-number.number-index _ c.loop-number.mask c.bit_of-mask.result bit c.loop-number-test.true c.entry.result (c.entry.ensures ∙ c.number-item.is)
    (c.loop-number.invariant bit) (c.bit_of-mask.ensures bit)

pub returns : goal.returns
returns c = bits_whole c.args.numbers.now c.loop-number.number-index c.loop-number.mask c.loop-number-test.false c.loop-number.invariant
