use Rattle.cil_faults.specs.Reported.{global_fault}
use Rattle.cil_attrs.specs.names.Declarations.{nowhere}
use Rattle.cil_mls.proofs.OrderFaultLemmas.{one_listed}
use Rattle.cil_mls.proofs.policy_faults.one_fault.Goals as goal

pub returns : goal.returns
returns c =
    one_listed c.new-faults.result.items c.push_fault.new.faults.items (global_fault c.args.code nowhere c.args.word.now) c.in-Some.list c.new-faults.ensures.items c.in_ok-push_fault.ensures
    c.in-Some.ensures.faults
