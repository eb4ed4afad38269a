use Rattle.std.proofs.Common.{ap, ◌∙◌}
use Rattle.std.specs.List.{list_all}
use Rattle.cil_names.specs.Entries.{is_in}
use Rattle.cil_names.proofs.EntryLemmas.{none_has, none_yet, one_has}
use Rattle.cil_names.proofs.enabled.has_one.Goals as goal

pub loop-round-preserved : goal.loop-round-preserved
loop-round-preserved c = none_yet _ _ _ c.loop-round.invariant _ _ c.loop-round-test.true c.round-item.is c.are_set.result
    (c.are_set.ensures ∙ ap (list_all (is_in c.args.enabled.now)) c.as_slice.ensures.value) c.if-are_set.false

pub returns : goal.returns
returns c = none_has _ _ _ c.loop-round.invariant c.loop-round-test.false

pub returns-then-are_set : goal.returns-then-are_set
returns-then-are_set c = one_has _ _ _ c.loop-round.invariant _ _ c.loop-round-test.true c.round-item.is c.are_set.result
    (c.are_set.ensures ∙ ap (list_all (is_in c.args.enabled.now)) c.as_slice.ensures.value) c.if-are_set.true
