use Rattle.std.proofs.Common.{arith, length}
use Rattle.cil_macros.specs.Items.{item_at, items_in}
use Rattle.cil_neverallow.specs.Stated.{stated_of}
use Rattle.cil_neverallow.proofs.ViolationLemmas.{all_pairs, no_pairs, pairs_more, place_there}
use Rattle.cil_neverallow.proofs.forbidden.push_pairs.Goals as goal

pub get-other-requires : goal.get-other-requires
get-other-requires c = let t = c.loop-number-test.true in let n = c.len-number-end.ensures in omega (arith, t, n)

pub push_pair-requires-clause-other : goal.push_pair-requires-clause-other
push_pair-requires-clause-other c =
    let t = c.loop-number-test.true in
    let n = c.len-number-end.ensures in
    place_there c.args.allowed.now c.loop-number.number (length (items_in c.args.instances.now)) c.requires.allowed (omega (arith, t, n)) (stated_of c.get-other.result) c.get-other.ensures

pub loop-number-init : goal.loop-number-init
loop-number-init c = no_pairs (item_at c.args.instances.now) c.args.view.now (stated_of c.args.statement.now) c.args.faults.now.items

pub loop-number-preserved : goal.loop-number-preserved
loop-number-preserved c =
    let t = c.loop-number-test.true in
    let n = c.len-number-end.ensures in
    pairs_more (item_at c.args.instances.now) c.args.view.now (stated_of c.args.statement.now) c.args.allowed.now c.loop-number.number (stated_of c.get-other.result) (omega (arith, t, n)) c.get-other.ensures
    c.args.faults.now.items c.loop-number.faults.items c.push_pair.new.faults.items c.loop-number.invariant c.in_ok-push_pair.ensures

pub returns : goal.returns
returns c =
    let t = c.loop-number-test.false in
    let n = c.len-number-end.ensures in
    all_pairs (item_at c.args.instances.now) c.args.view.now (stated_of c.args.statement.now) c.args.allowed.now c.loop-number.number c.args.faults.now.items c.loop-number.faults.items (omega (arith, t, n))
    c.loop-number.invariant
