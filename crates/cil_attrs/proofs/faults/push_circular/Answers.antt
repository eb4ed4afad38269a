use Rattle.std.specs.Prelude.{◌⊎◌, ◌↔◌, Contains}
use Rattle.std.proofs.Common.{sym, ◌∙◌, subst}
use Rattle.std.proofs.lemmas.Option.{same_Some}
use Rattle.cil_faults.specs.declared.fault.Fault.{Fault}
use Rattle.cil_known.specs.macros.Items.{items_in}
use Rattle.cil_known.specs.names.Entries.{is_in}
use Rattle.cil_attrs.specs.declared.giver.SetKind.{SetKind}
use Rattle.cil_attrs.specs.Targets.{IsToldIn}
use Rattle.cil_attrs.proofs.faults.push_circular.Goals as goal

pub returns-clause-some : goal.returns-clause-some
returns-clause-some c = λ a e.
    subst
    (λ (z : SetKind). (f : Fault) → Contains c.push_declared.new.faults.items f
    ↔ (Contains c.args.faults.now.items f
    ⊎ IsToldIn c.args.lookup.now.namespaces.now c.args.lookup.now.names.now (items_in c.args.instances.now) (is_in c.args.lookup.now.enabled.now) z.kind c.args.code c.args.circular.now f))
    (same_Some c.in-Some.sets a (sym c.in-Some.is ∙ e)) c.in_ok-push_declared.ensures
