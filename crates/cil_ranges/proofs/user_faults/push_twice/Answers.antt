use Rattle.std.proofs.Common.{◌<◌, arith, length}
use Rattle.cil_macros.specs.Items.{item_at, items_in}
use Rattle.cil_macros.proofs.ItemLemmas.{items_taken}
use Rattle.cil_ranges.proofs.UserFaultLemmas.{all_told, more_told, none_told}
use Rattle.cil_ranges.proofs.user_faults.push_twice.Goals as goal

pub loop-at-init : goal.loop-at-init
loop-at-init c = none_told c.args.known.now c.args.by.now c.args.differing.now (items_in c.args.instances.now) (items_in c.args.instances.now) c.args.faults.now.items

pub loop-at-preserved : goal.loop-at-preserved
loop-at-preserved c =
    let i = c.args.instances.now in
    let at = c.loop-at.at in
    let within : at < length (items_in i) = let t = c.loop-at-test.true in let n = c.len-at-end.ensures.items in omega (arith, t, n) in
    more_told c.args.known.now c.args.by.now c.args.differing.now (items_in i) (items_in i) at (item_at i at) (items_taken i at within) _ _ _ c.loop-at.invariant c.in_ok-push_twice_at.ensures

pub returns : goal.returns
returns c =
    let n = c.len-at-end.ensures.items in
    let f = c.loop-at-test.false in
    all_told c.args.known.now c.args.by.now c.args.differing.now (items_in c.args.instances.now) (items_in c.args.instances.now) c.loop-at.at (omega (arith, f, n)) _ _ c.loop-at.invariant
