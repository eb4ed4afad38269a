use Rattle.std.proofs.Common.{◌<◌, ◌≤◌, arith, length}
use Rattle.cil_known.specs.macros.Items.{item_at, items_in}
use Rattle.cil_known.proofs.macros_lemmas.ItemLemmas.{items_taken}
use Rattle.cil_attrs.proofs.ToldLemmas.{all_told, more_told, none_told}
use Rattle.cil_attrs.proofs.declared.push_declared.Goals as goal

pub loop-at-init : goal.loop-at-init
loop-at-init c = none_told (items_in c.args.instances.now) _ _ (items_in c.args.instances.now)

pub push_declared_at-requires-clause-within : goal.push_declared_at-requires-clause-within
push_declared_at-requires-clause-within c = let t = c.loop-at-test.true in let n = c.len-at-end.ensures.items in omega (arith, t, n)

pub loop-at-preserved : goal.loop-at-preserved
loop-at-preserved c =
    let i = c.args.instances.now in
    let at = c.loop-at.at in
    let within : at < length (items_in i) = let t = c.loop-at-test.true in let n = c.len-at-end.ensures.items in omega (arith, t, n) in
    more_told (items_in i) _ _ at (item_at i at) _ _ (items_taken i at within) c.in_ok-push_declared_at.ensures c.loop-at.invariant

pub returns : goal.returns
returns c =
    let i = c.args.instances.now in
    let over : length (items_in i) ≤ c.loop-at.at = let t = c.loop-at-test.false in let n = c.len-at-end.ensures.items in omega (arith, t, n) in
    all_told (items_in i) _ _ c.loop-at.at _ over c.loop-at.invariant
