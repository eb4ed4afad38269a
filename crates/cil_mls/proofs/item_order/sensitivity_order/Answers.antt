use Rattle.std.specs.Prelude.{MatchOption}
use Rattle.std.proofs.Common.{List, ℕ, subst, sym}
use Rattle.cil_faults.proofs.RefusalLemmas.{refused}
use Rattle.cil_syntax.specs.declared.kind.Keyword.TheVariants as keywords
use Rattle.cil_syntax.specs.declared.kind.Kind.TheVariants as kinds
use Rattle.cil_attrs.specs.macros.Items.{items_in}
use Rattle.cil_attrs.specs.known.Known.{enabled_in}
use Rattle.cil_attrs.specs.known.Members.{space_of}
use Rattle.cil_attrs.specs.known.Numbers.{names_of}
use Rattle.cil_attrs.specs.SetFaults.{SetFault}
use Rattle.cil_mls.specs.Ordering.{HasNoOrder, IsNumberedOrder}
use Rattle.cil_mls.proofs.OrderSpaces.{sensitivities_space}
use Rattle.cil_mls.proofs.item_order.sensitivity_order.Goals as goal

pub members-requires-clause-known : goal.members-requires-clause-known
members-requires-clause-known c = (names_of c.args.sections.now, space_of kinds.Sensitivity, record { known = c.requires.known; is_space = sensitivities_space; named = sym c.as_slice-names.ensures.value })

pub order_by-requires-clause-members : goal.order_by-requires-clause-members
order_by-requires-clause-members c =
    let sections = names_of c.args.sections.now in
    let policy = c.in_ok-members.ensures sections (space_of kinds.Sensitivity) (record { known = c.requires.known; is_space = sensitivities_space; named = sym c.as_slice-names.ensures.value }) in
    (sections, c.requires.known, sym c.as_slice-names.ensures.value, policy.0)

pub returns-in_err-members : goal.returns-in_err-members
returns-in_err-members c =
    let k = c.args.known.now in
    let xs = items_in c.args.instances.now in
    refused
    (λ order. MatchOption order (HasNoOrder xs (enabled_in k) kinds.Sensitivity keywords.SensitivityOrder) (λ row. IsNumberedOrder xs (enabled_in k) kinds.Sensitivity keywords.SensitivityOrder c.args.sections.now.sensitivities.items row.items))
    (SetFault xs (enabled_in k) (space_of kinds.Sensitivity)) _ _ c.from_residual.ensures.1
    (c.in_err-members.ensures (names_of c.args.sections.now) (space_of kinds.Sensitivity) (record { known = c.requires.known; is_space = sensitivities_space; named = sym c.as_slice-names.ensures.value }))

pub returns : goal.returns
returns c =
    let k = c.args.known.now in
    let xs = items_in c.args.instances.now in
    let sections = names_of c.args.sections.now in
    let policy = c.in_ok-members.ensures sections (space_of kinds.Sensitivity) (record { known = c.requires.known; is_space = sensitivities_space; named = sym c.as_slice-names.ensures.value }) in (
      subst
          (λ (names : List (List ℕ)). MatchOption c.in_ok-order.order (HasNoOrder xs (enabled_in k) kinds.Sensitivity keywords.SensitivityOrder)
          (λ row. IsNumberedOrder xs (enabled_in k) kinds.Sensitivity keywords.SensitivityOrder names row.items)) c.as_slice-names.ensures.value c.in_ok-order.ensures,
      policy.1,
    )
