use Rattle.cil_host.proofs.StateLemmas.{no_memory}
use Rattle.cil_host.proofs.host.policy_of.Goals as goal

pub returns-in_err-told-clause-err : goal.returns-in_err-told-clause-err
returns-in_err-told-clause-err c = no_memory _ _ c.from_residual-in_err-told.ensures.1

pub returns-in_err-modules-clause-err : goal.returns-in_err-modules-clause-err
returns-in_err-modules-clause-err c = no_memory _ _ c.from_residual-in_err-modules.ensures.1
