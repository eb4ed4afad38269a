use Rattle.cilhost.proofs.CompileLemmas.{added, adds_modules}
use Rattle.cilhost.proofs.ReadingLemmas.{refusal_due}
use Rattle.cilhost.proofs.modules.add.Goals as goal

pub returns-in-Ok-install-clause-adds : goal.returns-in-Ok-install-clause-adds
returns-in-Ok-install-clause-adds g c =
    added _ _ _ _ _ _ (rw (← c.as_slice.ensures.value) at c.in-Ok.ensures.bytes) c.in-Ok-install.is c.install.ensures

pub returns-in-Ok-install-clause-modules : goal.returns-in-Ok-install-clause-modules
returns-in-Ok-install-clause-modules g c = adds_modules _ _ _ _ c.install.ensures

pub returns-clause-due : goal.returns-clause-due
returns-clause-due g c =
    let refused = rw c.as_slice.ensures.value at c.in-Err-install.ensures.refusal in
    rw c.refused.ensures (refusal_due _ _ _ _ _ _ c.in-Ok.ensures.bytes refused c.in-Ok.ensures.sound)
