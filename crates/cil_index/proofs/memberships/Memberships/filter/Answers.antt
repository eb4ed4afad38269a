use Rattle.std.proofs.Common.{[], get_or, refl, replicate, subst, sym}
use Rattle.cil_index.specs.Memberships.{IsFilter}
use Rattle.cil_index.proofs.MembershipLemmas.{list_none, list_there, no_filter}
use Rattle.cil_index.proofs.memberships.Memberships.filter.Goals as goal

pub returns-in-Some : goal.returns-in-Some
returns-in-Some c =
    let found = c.in-Some.ensures.lookup in
    subst (IsFilter (get_or c.args.self.now.lists.items c.args.number [])) (sym (list_there c.args.self.now.filters.items c.deref.result.now c.args.number c.in-Some.filter.now c.deref.ensures.value found.3.0 found.1)) (c.requires c.args.number)

pub returns-in-None : goal.returns-in-None
returns-in-None c = no_filter c.args.self.now.lists.items c.args.self.now.filters.items c.args.number (replicate 8 0) refl c.requires (list_none c.args.self.now.filters.items c.deref.result.now c.args.number c.deref.ensures.value c.in-None.ensures.lookup.3)
