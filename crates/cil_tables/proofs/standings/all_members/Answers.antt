use Rattle.std.specs.Prelude.{Ok, Err}
use Rattle.std.proofs.Common.{sym}
use Rattle.cil_syntax.specs.declared.kind.Kind.TheVariants as kinds
use Rattle.cil_known.specs.Members.{space_of}
use Rattle.cil_known.specs.Numbers.{names_of}
use Rattle.cil_known.specs.Known.{enabled_in}
use Rattle.cil_faults.proofs.RefusalLemmas.{refused}
use Rattle.cil_macros.specs.Items.{items_in}
use Rattle.cil_tables.specs.SetsStep.{MembersFault}
use Rattle.cil_tables.specs.Standings.{AreAllMembers}
use Rattle.cil_faults.proofs.BothLemmas.{answers_both}
use Rattle.cil_tables.proofs.SpaceLemmas.{roles_space, types_space, users_space}
use Rattle.cil_tables.proofs.standings.all_members.Goals as goal

pub members-users-requires-clause-known : goal.members-users-requires-clause-known
members-users-requires-clause-known c = (names_of c.args.sections.now, space_of kinds.User, record { known = c.requires.known; is_space = users_space; named = sym c.as_slice.ensures.value })

pub members-roles-requires-clause-known : goal.members-roles-requires-clause-known
members-roles-requires-clause-known c = (names_of c.args.sections.now, space_of kinds.Role, record { known = c.requires.known; is_space = roles_space; named = sym c.as_slice-2.ensures.value })

pub members-types-requires-clause-known : goal.members-types-requires-clause-known
members-types-requires-clause-known c = (names_of c.args.sections.now, space_of kinds.Type_, record { known = c.requires.known; is_space = types_space; named = sym c.as_slice-3.ensures.value })

pub returns-in_err-users : goal.returns-in_err-users
returns-in_err-users c =
    let k = c.args.known.now in
    let xs = items_in c.args.instances.now in
    let names = names_of c.args.sections.now in
    let users = c.members-users.ensures names (space_of kinds.User) (record { known = c.requires.known; is_space = users_space; named = sym c.as_slice.ensures.value }) in
    let roles = c.members-roles.ensures names (space_of kinds.Role) (record { known = c.requires.known; is_space = roles_space; named = sym c.as_slice-2.ensures.value }) in
    let types = c.members-types.ensures names (space_of kinds.Type_) (record { known = c.requires.known; is_space = types_space; named = sym c.as_slice-3.ensures.value }) in
    let others = answers_both _ _ _ _ _ _ _ c.together-both_roles_types.ensures roles types in
    refused (AreAllMembers k xs names) (MembersFault (enabled_in k) xs) _ _ c.from_residual.ensures.1 (answers_both _ _ _ _ _ _ (Err _) c.in_err-users.ensures users others)

pub returns : goal.returns
returns c =
    let names = names_of c.args.sections.now in
    let users = c.members-users.ensures names (space_of kinds.User) (record { known = c.requires.known; is_space = users_space; named = sym c.as_slice.ensures.value }) in
    let roles = c.members-roles.ensures names (space_of kinds.Role) (record { known = c.requires.known; is_space = roles_space; named = sym c.as_slice-2.ensures.value }) in
    let types = c.members-types.ensures names (space_of kinds.Type_) (record { known = c.requires.known; is_space = types_space; named = sym c.as_slice-3.ensures.value }) in
    let others = answers_both _ _ _ _ _ _ _ c.together-both_roles_types.ensures roles types in
    let all = answers_both _ _ _ _ _ _ (Ok c.in_ok-users.field-0) c.in_ok-users.ensures users others in
    (record { users = all.0.0; roles = all.0.1.0; types = all.0.1.1 }, all.1)
