use Rattle.cil_names.proofs.EntryLemmas.{none_has, none_yet, one_has}
use Rattle.cil_declare.proofs.gather.any_always.Goals as goal

pub loop-row-preserved : goal.loop-row-preserved
loop-row-preserved c = none_yet _ _ _ c.loop-row.invariant _ _ c.loop-row-test.true c.row-item.is c.is_outside.result c.is_outside.ensures c.if-is_outside.false

pub returns : goal.returns
returns c = none_has _ _ _ c.loop-row.invariant c.loop-row-test.false

pub returns-then-is_outside : goal.returns-then-is_outside
returns-then-is_outside c = one_has _ _ _ c.loop-row.invariant _ _ c.loop-row-test.true c.row-item.is c.is_outside.result c.is_outside.ensures c.if-is_outside.true
