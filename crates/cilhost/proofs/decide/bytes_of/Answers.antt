use Rattle.std.proofs.Common.{arith, inr, refl}
use Rattle.cilhost.proofs.DecideLemmas.{are_all, is_long}
use Rattle.cilhost.proofs.decide.bytes_of.Goals as goal

pub returns-then-len-gt-LONGEST_TABLES-clause-due : goal.returns-then-len-gt-LONGEST_TABLES-clause-due
returns-then-len-gt-LONGEST_TABLES-clause-due g c =
    (refl, inr (c.in-Ok.ensures.sound, is_long _ _ c.in-Ok.ensures.bytes (omega (arith, c.if-len-gt-LONGEST_TABLES.true, c.len.ensures, c.in-Ok.bytes.ok.0))))

pub returns-clause-bytes : goal.returns-clause-bytes
returns-clause-bytes g c = are_all _ _ c.in-Ok.ensures.bytes (omega (arith, c.if-len-gt-LONGEST_TABLES.false, c.len.ensures, c.in-Ok.bytes.ok.0))
