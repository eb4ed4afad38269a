use Rattle.std.proofs.Common.{subst, sym}
use Rattle.std.specs.List.Sorted.{IsStrictlySortedBy}
use Rattle.cil_conditions.specs.Order.{branch_cmp}
use Rattle.cil_server.proofs.neverallow_lemmas.MeetLemmas.{no_branches}
use Rattle.cil_tests.proofs.covering.no_branches.Goals as goal

pub returns : goal.returns
returns c = subst (IsStrictlySortedBy branch_cmp) (sym c.new.ensures.items) no_branches
