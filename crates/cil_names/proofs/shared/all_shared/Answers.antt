use Rattle.std.proofs.Common.{arith}
use Rattle.cil_base.proofs.RecordLemmas.{all_records}
use Rattle.cil_macros.specs.Items.{items_in}
use Rattle.cil_names.proofs.shared.all_shared.Goals as goal

pub push_at-requires-clause-within : goal.push_at-requires-clause-within
push_at-requires-clause-within c = let t = c.loop-at-test.true in let n = c.len-at-end.ensures.items in omega (arith, t, n)

pub loop-at-preserved : goal.loop-at-preserved
loop-at-preserved c = c.in_ok-push_at.ensures c.loop-at.invariant

pub returns : goal.returns
returns c =
    let t = c.loop-at-test.false in
    let n = c.len-at-end.ensures.items in all_records _ _ (items_in c.args.instances.now) c.loop-at.at _ c.loop-at.invariant (omega (arith, t, n))
