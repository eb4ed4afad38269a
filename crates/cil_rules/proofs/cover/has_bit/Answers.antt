use Rattle.std.proofs.Common.{arith}
use Rattle.cil_rules.proofs.CoverLemmas.{bit_tested, no_bit}
use Rattle.cil_rules.proofs.cover.has_bit.Goals as goal

pub returns-then-bit-ge32 : goal.returns-then-bit-ge32
returns-then-bit-ge32 c = (λ t. absurd (let u = t in cc), λ s. absurd (no_bit c.args.mask c.args.bit (omega arith) (let h = c.if-bit-ge32.true in omega (arith, h)) s))

pub returns : goal.returns
returns c = bit_tested c.args.mask c.args.bit
