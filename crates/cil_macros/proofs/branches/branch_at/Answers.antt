use Rattle.std.proofs.Common.{arith, subst}
use Rattle.cil_macros.specs.InBranches.{SaysItsBranch}
use Rattle.cil_macros.specs.Walks.{placed_in, written_in}
use Rattle.cil_macros.proofs.BranchLemmas.{in_its, in_none, in_this}
use Rattle.cil_macros.proofs.CallLemmas.{placed_there}
use Rattle.cil_macros.proofs.branches.branch_at.Goals as goal

pub returns-in-Some-value_under : goal.returns-in-Some-value_under
returns-in-Some-value_under c =
    let s = c.args.spaces.now in
    let cs = c.args.brought.now.entries.items in
    let q = placed_there s cs c.loop-opener.place c.loop-opener.invariant.0 in
    let x = c.in-Some.ensures in
    in_this (written_in s) (placed_in s cs) c.args.at c.loop-opener.place q.0 q.1 c.loop-opener.invariant.2 c.in-Some.opener x c.loop-opener.invariant.1 c.in-Some-value_under.value
    (subst (SaysItsBranch (written_in s) x.opener q.0) c.in-Some-value_under.is (c.value_under.ensures x.opener q.0 x.is q.1))

pub loop-opener-preserved : goal.loop-opener-preserved
loop-opener-preserved c =
    let s = c.args.spaces.now in
    let cs = c.args.brought.now.entries.items in
    let q = placed_there s cs c.loop-opener.place c.loop-opener.invariant.0 in
    let x = c.in-Some.ensures in
    let low = x.lower in
    let within = c.loop-opener.invariant.0 in
    let near = c.loop-opener.invariant.1 in (
      omega (arith, low, within),
      omega (arith, low, near),
      in_its (written_in s) (placed_in s cs) c.args.at c.loop-opener.place q.0 q.1 c.loop-opener.invariant.2 c.in-Some.opener x
          (subst (SaysItsBranch (written_in s) x.opener q.0) c.in_default-value_under.is (c.value_under.ensures x.opener q.0 x.is q.1)),
    )

pub returns : goal.returns
returns c =
    let s = c.args.spaces.now in
    let cs = c.args.brought.now.entries.items in
    let q = placed_there s cs c.loop-opener.place c.loop-opener.invariant.0 in
    in_none (written_in s) (placed_in s cs) c.args.at c.loop-opener.place q.0 q.1 c.loop-opener.invariant.2 c.in_default.ensures
