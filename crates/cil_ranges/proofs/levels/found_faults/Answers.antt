use Rattle.std.specs.Prelude.{List}
use Rattle.std.proofs.Common.{subst}
use Rattle.cil_faults.specs.declared.fault.Fault.{Fault}
use Rattle.cil_macros.specs.Items.{items_in}
use Rattle.cil_known.specs.Known.{enabled_in}
use Rattle.cil_ranges.specs.Checked.{AddsAmong}
use Rattle.cil_ranges.proofs.MadeLemmas.{all_found}
use Rattle.cil_ranges.proofs.levels.found_faults.Goals as goal

pub returns : goal.returns
returns c = λ g items reads judges given on.
    let k = c.args.known.now in
    let xs = items_in c.args.instances.now in
    let first = subst (λ (l : List Fault). AddsAmong k c.args.judge.now l c.push_level_faults.new.faults.items xs) c.new-faults.ensures.items c.in_ok-push_level_faults.ensures in
    all_found (enabled_in k) g xs items c.push_level_faults.new.faults.items c.push_user_faults.new.faults.items (first g judges) (c.in_ok-push_user_faults.ensures g items reads given on)
