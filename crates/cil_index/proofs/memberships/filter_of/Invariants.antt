use Rattle.cil_index.proofs.MembershipLemmas.{IsFirstFilter}
use Rattle.cil_index.proofs.memberships.filter_of.Given as goal

abbrev pub invariant-loop-number : goal.invariant-loop-number
invariant-loop-number l = IsFirstFilter l.numbers l.number-index l.filter
