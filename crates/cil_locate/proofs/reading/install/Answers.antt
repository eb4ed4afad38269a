use Rattle.cil_locate.proofs.ReadingLemmas.{added, readable}
use Rattle.cil_locate.proofs.reading.install.Goals as goal

pub returns-in-Ok-clause-reading : goal.returns-in-Ok-clause-reading
returns-in-Ok-clause-reading c = rw c.text.ensures.text at (readable _ _ _ _ _ c.len.ensures.modules c.install.ensures c.in-Ok.is)

pub returns-in-Ok-clause-adds : goal.returns-in-Ok-clause-adds
returns-in-Ok-clause-adds c = rw c.text.ensures.text at (added _ _ _ _ _ c.install.ensures c.in-Ok.is)
