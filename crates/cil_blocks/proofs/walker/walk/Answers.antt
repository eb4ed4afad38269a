use Rattle.std.proofs.Common.{arith}
use Rattle.cil_blocks.proofs.EntryLemmas.{all_standing, started, too_many, went_on}
use Rattle.cil_blocks.proofs.walker.walk.Goals as goal

pub loop-at-init : goal.loop-at-init
loop-at-init c =
    (omega arith, λ ws w. started ws c.args.parts.now c.args.opened.now w _ _ _ c.in_ok-entries.ensures.items c.as_slice.ensures.value (c.in_ok-push_all.ensures ws))

pub returns-then-len-limit-clause-many : goal.returns-then-len-limit-clause-many
returns-then-len-limit-clause-many c =
    let h = c.if-len-limit.true in
    let l = c.len-in-loop-at.ensures in
    λ ws w. too_many ws c.args.parts.now c.args.opened.now w c.loop-at.at _ c.loop-at.entries.items (omega (arith, h, l)) (c.loop-at.invariant.1 ws w)

pub loop-at-preserved : goal.loop-at-preserved
loop-at-preserved c =
    let h = c.loop-at-test.true in
    let few = c.if-len-limit.false in (
      omega (arith, h, few),
      λ ws w. went_on ws c.args.parts.now c.args.opened.now w c.loop-at.at c.loop-at.entries.items _ _ c.index.result.now (omega (arith, h)) c.index.ensures
          c.opened_by.ensures (c.loop-at.invariant.1 ws w) (c.in_ok-push_all-2.ensures ws),
    )

pub returns-clause-all : goal.returns-clause-all
returns-clause-all c =
    let h = c.loop-at-test.false in
    λ ws w. all_standing ws c.args.parts.now c.args.opened.now w c.loop-at.at c.loop-at.entries.items (omega (arith, h)) (c.loop-at.invariant.1 ws w)
