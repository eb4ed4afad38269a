use Rattle.cil_index.proofs.MembershipLemmas.{noted_all}
use Rattle.cil_index.proofs.memberships.Memberships.of.Goals as goal

pub returns : goal.returns
returns c = noted_all c.parts-parts.result.ones c.parts-parts.result.several.now c.args.sets.now c.in_ok-memberships.memberships c.parts-parts.ensures c.in_ok-memberships.ensures
