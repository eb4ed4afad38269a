use Rattle.std.proofs.Common.{◌<◌, ◌≤◌, length, arith, subst, sym}
use Rattle.std.proofs.Common.{take}
use Rattle.cil_macros.specs.Items.{item_at, items_in}
use Rattle.cil_macros.proofs.ItemLemmas.{items_taken}
use Rattle.cil_known.specs.Known.{enabled_in}
use Rattle.cil_tables.proofs.BooleanLemmas.{AreOn, on_all, on_more, on_none}
use Rattle.cil_tables.proofs.booleans.unsorted.Goals as goal

pub loop-at-init : goal.loop-at-init
loop-at-init c = subst (AreOn (enabled_in c.args.known.now) (take 0 (items_in c.args.instances.now))) (sym c.new-on.ensures.items) (on_none (enabled_in c.args.known.now) (items_in c.args.instances.now))

pub loop-at-preserved : goal.loop-at-preserved
loop-at-preserved c =
    let i = c.args.instances.now in
    let at = c.loop-at.at in
    let within : at < length (items_in i) = let t = c.loop-at-test.true in let n = c.len-at-end.ensures.items in omega (arith, t, n) in
    on_more (enabled_in c.args.known.now) _ (item_at i at) _ _ _ (items_taken i at within) c.loop-at.invariant c.in_ok-push_on.ensures

pub returns : goal.returns
returns c =
    let xs = items_in c.args.instances.now in
    let over : length xs ≤ c.loop-at.at = let f = c.loop-at-test.false in let n = c.len-at-end.ensures.items in omega (arith, f, n) in
    on_all (enabled_in c.args.known.now) xs c.loop-at.at c.loop-at.on.items over c.loop-at.invariant
