use Rattle.std.proofs.Common.{sym, ◌∙◌, arith}
use Rattle.cil_mls.proofs.HashLemmas.{written_once}
use Rattle.cil_mls.proofs.laws.writes_tell_apart.Goals as goal

pub returns : goal.returns
returns c = λ v w a b e. let len = a.len in written_once 0 v w (omega (arith, len)) (b.len ∙ sym a.len) a.fit b.fit e
