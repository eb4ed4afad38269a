use Rattle.cil_faults.proofs.RefusalLemmas.{answers_alike}
use Rattle.cil_macros.specs.Items.{items_in}
use Rattle.cil_names.specs.Entries.{is_in}
use Rattle.cil_classes.specs.Faults.{ClassFault}
use Rattle.cil_classes.proofs.WidthLemmas.{fault_back, fault_there}
use Rattle.cil_classes.proofs.widths.check_classes.Goals as goal

pub wrong_classes-requires-clause-asked : goal.wrong_classes-requires-clause-asked
wrong_classes-requires-clause-asked c = c.requires.asked

pub wrong_classes-requires-clause-shared : goal.wrong_classes-requires-clause-shared
wrong_classes-requires-clause-shared c = c.requires.shared

pub returns : goal.returns
returns c =
    let xs = items_in c.args.instances.now in
    let s = is_in c.args.lookup.now.enabled.now in
    let more = c.in_ok-push_many.ensures xs s c.requires.names in
    answers_alike _ (ClassFault s xs) (λ done. Unit {0}) (fault_there xs s c.in_ok-faults.faults.items _ c.in_ok-faults.ensures more) (fault_back xs s c.in_ok-faults.faults.items _ c.in_ok-faults.ensures more) _
    c.refuse.ensures.told
