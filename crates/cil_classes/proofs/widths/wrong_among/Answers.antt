use Rattle.std.proofs.Common.{◌<◌, ◌≤◌, arith, length}
use Rattle.std.proofs.lemmas.Result.{IfOk-from_err}
use Rattle.cil_macros.specs.Items.{item_at, items_in}
use Rattle.cil_macros.proofs.ItemLemmas.{items_taken}
use Rattle.cil_names.specs.Entries.{is_in}
use Rattle.cil_classes.specs.Widths.{IsWrong}
use Rattle.cil_classes.proofs.WidthLemmas.{told_all, told_more, told_none}
use Rattle.cil_classes.proofs.widths.wrong_among.Goals as goal

pub push_wrong-requires-clause-asked : goal.push_wrong-requires-clause-asked
push_wrong-requires-clause-asked c = c.requires.asked

pub push_wrong-requires-clause-twice : goal.push_wrong-requires-clause-twice
push_wrong-requires-clause-twice c = c.requires.twice

pub push_wrong-requires-clause-within : goal.push_wrong-requires-clause-within
push_wrong-requires-clause-within c = let t = c.loop-at-test.true in let n = c.len-at-end.ensures.items in omega (arith, t, n)

pub loop-at-init : goal.loop-at-init
loop-at-init c = told_none (IsWrong (is_in c.args.lookup.now.enabled.now) (items_in c.args.instances.now)) (items_in c.args.instances.now) _ c.new-faults.ensures.items

pub loop-at-preserved : goal.loop-at-preserved
loop-at-preserved c =
    let i = c.args.instances.now in
    let at = c.loop-at.at in
    let within : at < length (items_in i) = let t = c.loop-at-test.true in let n = c.len-at-end.ensures.items in omega (arith, t, n) in
    let P = IsWrong (is_in c.args.lookup.now.enabled.now) (items_in i) in
    told_more P (items_in i) at (item_at i at) _ _ (items_taken i at within) c.in_ok-push_wrong.ensures.is c.loop-at.invariant

pub returns : goal.returns
returns c =
    let i = c.args.instances.now in
    let over : length (items_in i) ≤ c.loop-at.at = let t = c.loop-at-test.false in let n = c.len-at-end.ensures.items in omega (arith, t, n) in
    told_all (IsWrong (is_in c.args.lookup.now.enabled.now) (items_in i)) (items_in i) c.loop-at.at _ over c.loop-at.invariant

pub returns-in_err-push_wrong : goal.returns-in_err-push_wrong
returns-in_err-push_wrong c = IfOk-from_err c.from_residual.result _ c.from_residual.ensures.0
