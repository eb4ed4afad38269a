use Rattle.cil_index.proofs.MembershipLemmas.{own_bit}
use Rattle.cil_index.proofs.memberships.Memberships.has.Goals as goal

pub returns-then-have_own_bits : goal.returns-then-have_own_bits
returns-then-have_own_bits c = (
  λ yes_. own_bit c.args.self.now c.args.number c.args.set (c.have_own_bits.ensures c.if-have_own_bits.true) c.requires.noted c.requires.within c.requires.filters (c.has_bit.ensures.0 yes_),
  λ listed. c.has_bit.ensures.1 ((c.requires.filters c.args.number).all c.args.set listed),
)
