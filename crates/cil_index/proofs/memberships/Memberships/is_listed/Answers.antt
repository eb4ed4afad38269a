use Rattle.std.proofs.Common.{subst}
use Rattle.std.specs.Prelude.{◌↔◌, Contains, IsTrue}
use Rattle.cil_index.proofs.MembershipLemmas.{list_none, list_there}
use Rattle.cil_index.proofs.SetLemmas.{none_in}
use Rattle.cil_index.proofs.memberships.Memberships.is_listed.Goals as goal

pub returns-in-Some : goal.returns-in-Some
returns-in-Some c =
    let found = c.in-Some.ensures.lookup in
    subst (λ l. IsTrue c.has.result ↔ Contains l c.args.set) (list_there c.args.self.now.lists.items c.deref.result.now c.args.number c.in-Some.numbers.now c.deref.ensures.value found.3.0 found.1) c.has.ensures

pub returns-in-None : goal.returns-in-None
returns-in-None c = none_in c.args.set _ (list_none c.args.self.now.lists.items c.deref.result.now c.args.number c.deref.ensures.value c.in-None.ensures.lookup.3)
