use Rattle.std.specs.Prelude.{◌⊎◌, ◌↔◌, Contains}
use Rattle.std.proofs.Common.{◌∙◌, subst}
use Rattle.cil_faults.specs.declared.code.FaultCode.TheVariants as causes
use Rattle.cil_faults.specs.declared.fault.Fault.{Fault}
use Rattle.cil_known.specs.macros.Items.{items_in}
use Rattle.cil_known.specs.names.Entries.{is_in}
use Rattle.cil_attrs.specs.Targets.{IsToldIn}
use Rattle.cil_attrs.proofs.faults.push_open.Goals as goal

pub returns : goal.returns
returns c =
    subst
    (λ flags. (f : Fault) → Contains c.push_declared.new.faults.items f
    ↔ (Contains c.args.faults.now.items f
    ⊎ IsToldIn c.args.lookup.now.namespaces.now c.args.lookup.now.names.now (items_in c.args.instances.now) (is_in c.args.lookup.now.enabled.now) c.args.kind causes.AliasOpen flags f))
    (c.as_slice.ensures.value ∙ c.in_ok-flags.ensures) c.in_ok-push_declared.ensures
