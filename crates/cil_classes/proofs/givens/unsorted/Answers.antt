use Rattle.std.specs.Prelude.{option_map}
use Rattle.std.proofs.Common.{◌<◌, ◌≤◌, ◌∙◌, ap, length, map, arith}
use Rattle.std.proofs.lemmas.Option.{slice_get-map}
use Rattle.cil_macros.specs.Items.{item_at, items_in}
use Rattle.cil_macros.proofs.ItemLemmas.{item_there, items_taken}
use Rattle.cil_known.specs.Known.{row_in}
use Rattle.cil_base.proofs.RecordLemmas.{all_records, none_more, record_more}
use Rattle.std.proofs.lemmas.Result.{IfOk-from_err}
use Rattle.cil_classes.proofs.givens.unsorted.Goals as goal
use Rattle.cil_classes.proofs.givens.unsorted.Goals.{in-Some+in_ok-push, in_default}

pub loop-at-preserved : goal.loop-at-preserved
loop-at-preserved c =
    let k = c.args.known.now in
    let i = c.args.instances.now in
    let at = c.loop-at.at in
    let within : at < length (items_in i) = let t = c.loop-at-test.true in let n = c.len-at-end.ensures.items in omega (arith, t, n) in
    let x = item_at i at in
    let row = c.row.ensures (map (row_in k) (items_in i)) (row_in k x) c.requires.table (slice_get-map (row_in k) (items_in i) at ∙ ap (option_map (row_in k)) (item_there i at within)) in
    elim c.match-branch-2.branch [
      | in-Some+in_ok-push w ↦ rw w.nodes-is (λ names known. record_more _ _ (items_in i) at x (items_taken i at within) _
          (c.loop-at.invariant names known) w.in-Some.node _ (rw w.in-Some.is at c.in_ok-node.ensures (items_in i) names known row) w.in_ok-push.ensures.items)
      | in_default w ↦ rw w.nodes-is (λ names known. none_more _ _ (items_in i) at x (items_taken i at within) _
          (c.loop-at.invariant names known) (rw w.in_default.is at c.in_ok-node.ensures (items_in i) names known row))
    ]

pub returns : goal.returns
returns c = λ names known.
    let i = c.args.instances.now in
    let over : length (items_in i) ≤ c.loop-at.at = let t = c.loop-at-test.false in let n = c.len-at-end.ensures.items in omega (arith, t, n) in
    all_records _ _ (items_in i) c.loop-at.at _ (c.loop-at.invariant names known) over

pub returns-in_err-node : goal.returns-in_err-node
returns-in_err-node c = IfOk-from_err c.from_residual.result _ c.from_residual.ensures.0

pub returns-in_err-push : goal.returns-in_err-push
returns-in_err-push c = IfOk-from_err c.from_residual-in_err-push.result _ c.from_residual-in_err-push.ensures.0
