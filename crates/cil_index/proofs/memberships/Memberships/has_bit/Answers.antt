use Rattle.std.proofs.Common.{subst}
use Rattle.std.specs.Prelude.{◌↔◌, IsTrue}
use Rattle.cil_index.specs.Memberships.{HasBit}
use Rattle.cil_index.proofs.MembershipLemmas.{list_there, no_word}
use Rattle.cil_index.proofs.memberships.Memberships.has_bit.Goals as goal

pub returns-in-Some : goal.returns-in-Some
returns-in-Some c =
    let found = c.in-Some.ensures.lookup in
    subst (λ l. IsTrue c.has_bit.result ↔ HasBit l c.args.set) (list_there c.args.self.now.filters.items c.deref.result.now c.args.number c.in-Some.filter.now c.deref.ensures.value found.3.0 found.1) c.has_bit.ensures

pub returns-in-None : goal.returns-in-None
returns-in-None c = no_word c.args.self.now.filters.items c.deref.result.now c.args.number c.args.set c.deref.ensures.value c.in-None.ensures.lookup.3
