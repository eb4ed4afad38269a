use Rattle.cil_names.proofs.PermissionLemmas.{empty_all, empty_more, empty_none}
use Rattle.cil_names.proofs.permissions.no_lists.Goals as goal

pub loop-entry-init : goal.loop-entry-init
loop-entry-init c = empty_none c.args.entries.now _ c.new-lists.ensures.items

pub loop-entry-preserved : goal.loop-entry-preserved
loop-entry-preserved c =
    empty_more _ _ _ _ _ _ c.loop-entry-test.true c._entry-item.is c.loop-entry.invariant c.new.ensures.items c.in_ok-push.ensures.items

pub returns : goal.returns
returns c = empty_all _ _ _ c.loop-entry-test.false c.loop-entry.invariant
