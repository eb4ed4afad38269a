use Rattle.std.proofs.Common.{ap, arith, length}
use Rattle.cil_blocks.specs.Places.{entries_in}
use Rattle.cil_blocks.proofs.EntryLemmas.{standings_length}
use Rattle.cil_macros.specs.Macros.{all_standing}
use Rattle.cil_macros.specs.Walks.{placed_in, written_in}
use Rattle.cil_macros.proofs.CallLemmas.{placed_there}
use Rattle.cil_macros.proofs.EntryLemmas.{placed_length}
use Rattle.cil_macros.proofs.NestingLemmas.{all_innermost, none_innermost, one_innermost}
use Rattle.cil_macros.proofs.nesting.innermost_of.Goals as goal

pub loop-at-init : goal.loop-at-init
loop-at-init c = none_innermost (placed_in c.args.spaces.now c.args.brought.now.entries.items) c.new-numbers.result c.new-numbers.ensures

pub loop-at-preserved : goal.loop-at-preserved
loop-at-preserved c =
    let s = c.args.spaces.now in
    let cs = c.args.brought.now.entries.items in
    let h = c.loop-at-test.true in
    let l = ap length c.entries.ensures.same in
    let m = c.len.ensures in
    let n = c.args.brought.now.entries.ok.0 in
    let p = placed_there s cs c.loop-at.at (omega (arith, h, l, m, n)) in
    one_innermost (placed_in s cs) c.loop-at.at c.loop-at.numbers c.push.new.self c.next_number-number.result p.0 p.1
    (c.next_number-number.ensures.value p.0 p.1) c.next_number-number.ensures.lower c.in_ok-push.ensures.pushed c.loop-at.invariant

pub returns : goal.returns
returns c =
    let s = c.args.spaces.now in
    let cs = c.args.brought.now.entries.items in
    let h = c.loop-at-test.false in
    let l = ap length c.entries.ensures.same in
    let m = c.len.ensures in
    let n = c.args.brought.now.entries.ok.0 in
    let k = placed_length (written_in s) (all_standing s) cs in
    let j = standings_length (written_in s) (entries_in s) in
    all_innermost (placed_in s cs) c.loop-at.at c.loop-at.numbers (omega (arith, h, l, m, n, k, j)) c.loop-at.invariant
