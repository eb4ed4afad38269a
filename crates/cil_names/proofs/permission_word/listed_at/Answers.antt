use Rattle.std.specs.List.Sorted.{IsStrictlySortedBy}
use Rattle.std.proofs.Common.{subst, sym, ◌∙◌}
use Rattle.cil_base.specs.Lists.{text_cmp}
use Rattle.cil_base.specs.Places.{contains_at}
use Rattle.cil_base.specs.Rising.{rising_nothing}
use Rattle.cil_names.proofs.ListedLemmas.{listed_there, none_listed_there}
use Rattle.cil_names.proofs.permission_word.listed_at.Goals as goal

pub returns-in-None-clause-sorted : goal.returns-in-None-clause-sorted
returns-in-None-clause-sorted c = rising_nothing text_cmp

pub returns-in-None-clause-value : goal.returns-in-None-clause-value
returns-in-None-clause-value c = none_listed_there c.args.permissions.now c.args.entry c.in-None.ensures.lookup.3

pub returns-in-Some-clause-value : goal.returns-in-Some-clause-value
returns-in-Some-clause-value c =
    c.as_slice.ensures.value ∙ listed_there c.args.permissions.now c.args.entry c.in-Some.list.now c.in-Some.ensures.lookup.3.0 c.in-Some.ensures.lookup.1

pub returns-in-Some-clause-sorted : goal.returns-in-Some-clause-sorted
returns-in-Some-clause-sorted c =
    subst (IsStrictlySortedBy text_cmp) (sym c.as_slice.ensures.value)
    (c.requires c.in-Some.list.now (contains_at c.args.permissions.now c.args.entry c.in-Some.list.now c.in-Some.list.now c.in-Some.ensures.lookup.3.0 c.in-Some.ensures.lookup.1))
