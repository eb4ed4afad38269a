use Rattle.std.proofs.Common.{sym, ◌∙◌}
use Rattle.cil_index.proofs.MembershipLemmas.{list_none, list_there}
use Rattle.cil_index.proofs.memberships.Memberships.of_type.Goals as goal

pub returns-in-Some : goal.returns-in-Some
returns-in-Some c =
    let found = c.in-Some.ensures.lookup in
    c.as_slice.ensures ∙ list_there c.args.self.now.lists.items c.deref.result.now c.args.number c.in-Some.numbers.now c.deref.ensures.value found.3.0 found.1

pub returns-in-None : goal.returns-in-None
returns-in-None c = sym (list_none c.args.self.now.lists.items c.deref.result.now c.args.number c.deref.ensures.value c.in-None.ensures.lookup.3)
