use Rattle.std.proofs.Common.{◌≡◌, length, refl, subst, sym, arith}
use Rattle.cil_syntax.specs.declared.kind.Kind.TheVariants as kinds
use Rattle.cil_known.specs.Members.{space_of}
use Rattle.cil_known.specs.Numbers.{names_of}
use Rattle.cil_level_rows.specs.attrs.Members.{AreMembers}
use Rattle.cil_tables.proofs.standings.all_sets.Goals as goal

pub returns : goal.returns
returns c = λ k xs known all.
    let s = c.args.sections.now in
    let names = names_of s in
    let some_users : c.len.result ≡ length s.users.items = let m = c.len.ensures in let n = s.users.ok.0 in omega (arith, m, n) in
    let some_roles : c.len-2.result ≡ length s.roles.items = let m = c.len-2.ensures in let n = s.roles.ok.0 in omega (arith, m, n) in
    let some_types : c.len-3.result ≡ length s.types.items = let m = c.len-3.ensures in let n = s.types.ok.0 in omega (arith, m, n) in
    let users = c.in_ok-users.ensures k xs names kinds.User known refl (subst (AreMembers k xs names (space_of kinds.User)) (sym c.held.ensures) all.users) some_users in
    let roles = c.in_ok-roles.ensures k xs names kinds.Role known refl (subst (AreMembers k xs names (space_of kinds.Role)) (sym c.held-2.ensures) all.roles) some_roles in
    let types = c.in_ok-types.ensures k xs names kinds.Type_ known refl (subst (AreMembers k xs names (space_of kinds.Type_)) (sym c.held-3.ensures) all.types) some_types in
    record { users = users.0; roles = roles.0; types = types.0; aliases = types.1 }
