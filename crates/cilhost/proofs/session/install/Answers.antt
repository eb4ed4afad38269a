use Rattle.cil_commands.specs.host.Machine.{same_state, unchanged}
use Rattle.cilhost.proofs.ReadingLemmas.{is_added, refusal_due, stay_modules}
use Rattle.cilhost.proofs.session.install.Goals as goal

pub returns-in-Ok-install-clause-adds : goal.returns-in-Ok-install-clause-adds
returns-in-Ok-install-clause-adds g c =
    let read = rw (← c.as_slice.ensures.value) at c.in-Ok.ensures.bytes in
    is_added _ _ _ _ _ _ read c.in-Ok-install.is c.install.ensures.modules.known
    (λ k. same_state _ _ (c.install.ensures.modules.stays k) c.install.ensures.loaded) c.install.ensures.modules.joined

pub returns-in-Ok-install-clause-modules : goal.returns-in-Ok-install-clause-modules
returns-in-Ok-install-clause-modules g c =
    stay_modules _ _ _ _ (λ k. same_state _ _ (c.install.ensures.modules.stays k) c.install.ensures.loaded) c.install.ensures.modules.joined
    c.install.ensures.modules.readable (unchanged _ _ _ c.install.ensures.modules.err c.install.ensures.loaded)

pub returns-clause-due : goal.returns-clause-due
returns-clause-due g c =
    let refused = rw c.as_slice.ensures.value at c.in-Err-install.ensures.modules.refusal in
    rw c.refused.ensures (refusal_due _ _ _ _ _ _ c.in-Ok.ensures.bytes refused c.in-Ok.ensures.sound)
