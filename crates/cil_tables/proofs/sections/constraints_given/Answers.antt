use Rattle.std.proofs.Common.{subst, sym}
use Rattle.cil_syntax.specs.declared.kind.Kind.TheVariants as kinds
use Rattle.cil_macros.specs.Items.{items_in}
use Rattle.cil_known.specs.Known.{AreStanding}
use Rattle.cil_constraints.specs.declared.push.Standing.{Standing}
use Rattle.cil_tables.proofs.ConstraintLemmas.{all_sets}
use Rattle.cil_tables.proofs.sections.constraints_given.Goals as goal

pub returns : goal.returns
returns c = λ names known apart stand classes given.
    let k = c.args.known.now in
    let xs = items_in c.args.instances.now in
    let sets : Standing = record { users = c.as_slice.result; roles = c.as_slice-2.result; types = c.as_slice-3.result } in
    c.in_ok-list.ensures c.is_switched-levels_on.ensures names known apart
    (all_sets k xs names sets (subst (AreStanding k xs names kinds.User) (sym c.as_slice.ensures.value) stand.users)
    (subst (AreStanding k xs names kinds.Role) (sym c.as_slice-2.ensures.value) stand.roles)
    (subst (AreStanding k xs names kinds.Type_) (sym c.as_slice-3.ensures.value) stand.types))
    classes given
