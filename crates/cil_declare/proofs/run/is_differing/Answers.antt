use Rattle.std.proofs.Common.{sym}
use Rattle.cil_declare.proofs.RunLemmas.{all_alike, more_alike, none_alike}
use Rattle.cil_declare.proofs.run.is_differing.Goals as goal

pub loop-row-init : goal.loop-row-init
loop-row-init c = none_alike c.args.instances.now c.args.first.now c.args.rows.now

pub is_same-requires-clause-b : goal.is_same-requires-clause-b
is_same-requires-clause-b c = c.requires.rows _ (c.loop-row.row-index, c.loop-row-test.true, sym c.row-item.is)

pub is_same-requires-clause-one : goal.is_same-requires-clause-one
is_same-requires-clause-one c = c.requires.same _ (c.loop-row.row-index, c.loop-row-test.true, sym c.row-item.is)

pub loop-row-preserved : goal.loop-row-preserved
loop-row-preserved c =
    more_alike c.args.instances.now c.args.first.now _ _ _ c.loop-row-test.true c.row-item.is c.loop-row.invariant (c.in_ok-is_same.ensures.0 c.if-not-branch.false)

pub returns : goal.returns
returns c = all_alike c.args.instances.now c.args.first.now _ _ c.loop-row-test.false c.loop-row.invariant
