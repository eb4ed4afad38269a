use Rattle.std.proofs.Common.{arith, length, ◌<◌, ◌≤◌, ◌∙◌, ap}
use Rattle.std.proofs.lemmas.List.{length-replicate}
use Rattle.std.proofs.lemmas.List.Elements.{Contains-get_or}
use Rattle.cil_index.proofs.LayoutLemmas.{placed_all, placed_more, placed_none}
use Rattle.cil_index.proofs.indexed.order_of.Goals as goal

pub loop-at-init : goal.loop-at-init
loop-at-init c = placed_none c.args.count c.args.entries.now _ (ap length (c.in_ok-order.ensures.items_if_clones_equal (λ y e. e)) ∙ length-replicate c.args.count 0)

pub index_mut-requires : goal.index_mut-requires
index_mut-requires c =
    let before = c.loop-at-test.true in
    let end = c.in_ok-end.ensures in
    let inside : c.loop-at.at < length c.args.entries.now = omega (arith, before, end) in
    let room = c.requires _ (Contains-get_or c.args.entries.now c.loop-at.at (record { part = 0; aim = 0; place = 0 }) inside) in
    let long = c.loop-at.invariant.long in
    let size = c.loop-at.order.ok.0 in omega (arith, room, long, size)

pub loop-at-preserved : goal.loop-at-preserved
loop-at-preserved c =
    let before = c.loop-at-test.true in
    let end = c.in_ok-end.ensures in
    placed_more c.args.count c.args.entries.now c.requires c.loop-at.at (record { part = 0; aim = 0; place = 0 }) c.loop-at.order.items (omega (arith, before, end)) c.loop-at.invariant

pub returns : goal.returns
returns c =
    let past = c.loop-at-test.false in
    let end = c.in_ok-end.ensures in
    let over : length c.args.entries.now ≤ c.loop-at.at = omega (arith, past, end) in
    placed_all c.args.count c.args.entries.now c.loop-at.at c.loop-at.order.items over c.loop-at.invariant
