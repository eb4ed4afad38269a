use Rattle.std.proofs.Common.{arith}
use Rattle.cil_mls.proofs.WordLemmas.{covered_so}
use Rattle.cil_mls.proofs.words.covers.Goals as goal

pub returns : goal.returns
returns c = covered_so c.args.word c.args.other (omega (arith, c.ranges.other.fits))
