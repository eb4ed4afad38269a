use Rattle.std.proofs.Common.{subst, sym}
use Rattle.cil_syntax.specs.declared.kind.Kind.TheVariants as kinds
use Rattle.cil_macros.specs.Items.{items_in}
use Rattle.cil_known.specs.Known.{AreStanding, HaveMembers}
use Rattle.cil_tables.proofs.sections.given_of.Goals as goal

pub returns : goal.returns
returns c = λ names known apart stand classes given.
    let k = c.args.known.now in
    let xs = items_in c.args.instances.now in
    let users = subst (AreStanding k xs names kinds.User) (sym c.as_slice-users.ensures.value) stand.users in
    let roles = subst (AreStanding k xs names kinds.Role) (sym c.as_slice-roles.ensures.value) stand.roles in
    let types = subst (AreStanding k xs names kinds.Type_) (sym c.as_slice-types.ensures.value) stand.types in
    record {
      user_roles = c.in_ok-user_roles.ensures names known users roles;
      role_types = c.in_ok-role_types.ensures names known roles types;
      role_allows = c.in_ok-role_allows.ensures names known roles roles;
      type_aliases = c.in_ok-type_aliases.ensures xs names known (subst (HaveMembers k xs names kinds.Type_) (sym c.as_slice-types.ensures.value) stand.aliases);
      rules = c.in_ok-rules.ensures names known apart types classes given;
      constraints = c.in_ok-constraints.ensures names known apart stand classes given;
    }
