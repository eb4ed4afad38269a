use Rattle.std.proofs.Common.{◌++◌, ap, arith, length}
use Rattle.cil_blocks.specs.Places.{entries_in}
use Rattle.cil_blocks.proofs.EntryLemmas.{standings_length}
use Rattle.cil_macros.specs.CallFaults.{faults_from}
use Rattle.cil_macros.specs.Macros.{all_standing}
use Rattle.cil_macros.specs.Walks.{placed_in, written_in}
use Rattle.cil_macros.proofs.CallLemmas.{placed_there}
use Rattle.cil_macros.proofs.EntryLemmas.{placed_length}
use Rattle.cil_macros.proofs.FaultLemmas.{all_told, one_told}
use Rattle.cil_macros.proofs.faults.call_faults.Goals as goal

pub loop-at-init : goal.loop-at-init
loop-at-init c =
    let s = c.args.source.now.spaces.now in
    ap (λ fs. fs ++ faults_from (written_in s) (all_standing s) c.args.marks.now c.args.lists.now 0 (placed_in s c.args.brought.now.entries.items)) c.new-faults.ensures.items

pub loop-at-preserved : goal.loop-at-preserved
loop-at-preserved c =
    let s = c.args.source.now.spaces.now in
    let cs = c.args.brought.now.entries.items in
    let h = c.loop-at-test.true in
    let l = ap length c.entries.ensures.same in
    let m = c.len.ensures in
    let n = c.args.brought.now.entries.ok.0 in
    let p = placed_there s cs c.loop-at.at (omega (arith, h, l, m, n)) in
    one_told (written_in s) (all_standing s) c.args.marks.now c.args.lists.now (placed_in s cs) c.loop-at.at p.0 c.loop-at.faults.items c.judge_at.new.faults.items _ p.1
    (c.in_ok-judge_at.ensures p.0 p.1) c.loop-at.invariant

pub returns : goal.returns
returns c =
    let s = c.args.source.now.spaces.now in
    let cs = c.args.brought.now.entries.items in
    let h = c.loop-at-test.false in
    let l = ap length c.entries.ensures.same in
    let m = c.len.ensures in
    let n = c.args.brought.now.entries.ok.0 in
    let k = placed_length (written_in s) (all_standing s) cs in
    let j = standings_length (written_in s) (entries_in s) in
    all_told (written_in s) (all_standing s) c.args.marks.now c.args.lists.now (placed_in s cs) c.loop-at.at c.loop-at.faults.items _ (omega (arith, h, l, m, n, k, j)) c.loop-at.invariant
