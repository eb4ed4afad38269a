use Rattle.cil_index.proofs.MembershipLemmas.{AreFirstFilters}
use Rattle.cil_index.proofs.memberships.filters_of.Given as goal

abbrev pub invariant-loop-numbers : goal.invariant-loop-numbers
invariant-loop-numbers l = AreFirstFilters l.lists l.numbers-index l.filters.items
