use Rattle.std.proofs.Common.{subst}
use Rattle.cil_known.specs.macros.Items.{items_in}
use Rattle.cil_known.specs.Known.{enabled_in}
use Rattle.cil_attrs.specs.Givers.{AreSets}
use Rattle.cil_attrs.proofs.FaultLemmas.{no_targets}
use Rattle.cil_attrs.proofs.faults.push_targets.Goals as goal

pub push_alias_targets-requires-clause-aliases : goal.push_alias_targets-requires-clause-aliases
push_alias_targets-requires-clause-aliases c = c.in-Some.is

pub returns-in_default : goal.returns-in_default
returns-in_default c = λ names sections which policy.
    no_targets (items_in c.args.instances.now) (enabled_in c.args.known.now) which
    (subst (λ o. AreSets o which.aliases) c.in_default.is policy.is_space.aliases) c.args.faults.now.items
