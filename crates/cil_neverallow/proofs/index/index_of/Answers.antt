use Rattle.std.proofs.Common.{subst, sym}
use Rattle.std.specs.List.Sorted.{IsStrictlySortedBy}
use Rattle.cil_index.specs.conditions.Order.{branch_cmp}
use Rattle.cil_neverallow.proofs.MeetLemmas.{all_always, all_among, listed_bare, no_branches}
use Rattle.cil_neverallow.proofs.index.index_of.Goals as goal

pub of-requires : goal.of-requires
of-requires c = subst (IsStrictlySortedBy branch_cmp) (sym c.new-3.ensures.items) no_branches

pub returns-clause-among : goal.returns-clause-among
returns-clause-among c =
    all_among c.args.view.now c.args.allowed.now c.all_rules.result.now c.in_ok-index.index.allow c.all_rules.ensures
    (listed_bare c.args.view.now.sets.now c.new-3.result.items c.in_ok-from_slice.field-0.items c.all_rules.result.now c.in_ok-index.index.allow c.new-3.ensures.items c.in_ok-from_slice.ensures.items
    c.in_ok-index.ensures.allow)

pub returns-clause-always : goal.returns-clause-always
returns-clause-always c =
    all_always c.args.view.now.sets.now c.all_rules.result.now c.in_ok-index.index.allow
    (listed_bare c.args.view.now.sets.now c.new-3.result.items c.in_ok-from_slice.field-0.items c.all_rules.result.now c.in_ok-index.index.allow c.new-3.ensures.items c.in_ok-from_slice.ensures.items
    c.in_ok-index.ensures.allow)
