use Rattle.std.proofs.Common.{ap, length, refl, subst, sym}
use Rattle.cil_syntax.specs.declared.kind.Kind.TheVariants as kinds
use Rattle.cil_macros.specs.Items.{items_in}
use Rattle.cil_known.specs.Members.{space_of}
use Rattle.cil_known.specs.Numbers.{names_of}
use Rattle.cil_ranges.specs.attrs.Members.{AreMembers}
use Rattle.cil_mls.proofs.OrderSpaces.{sensitivities_space}
use Rattle.cil_level_rows.proofs.aliases.standing_for_sensitivities.Goals as goal

pub members-requires-clause-known : goal.members-requires-clause-known
members-requires-clause-known c = (names_of c.args.sections.now, space_of kinds.Sensitivity, record { known = c.requires.known; is_space = sensitivities_space; named = sym c.as_slice-names.ensures.value })

pub returns : goal.returns
returns c =
    let k = c.args.known.now in
    let xs = items_in c.args.instances.now in
    let sections = names_of c.args.sections.now in
    let policy = c.in-Ok.ensures sections (space_of kinds.Sensitivity) (record { known = c.requires.known; is_space = sensitivities_space; named = sym c.as_slice-names.ensures.value }) in
    let stand = c.in_ok-standing.ensures k xs sections kinds.Sensitivity c.requires.known refl (subst (AreMembers k xs sections (space_of kinds.Sensitivity)) (sym c.held.ensures) policy.0) (ap length c.as_slice-names.ensures.value) in
    record { numbered = record { known = c.requires.known; named = refl; standing = stand.0 }; members = stand.1 }
