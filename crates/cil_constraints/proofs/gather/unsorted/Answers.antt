use Rattle.std.specs.Prelude.{option_map}
use Rattle.std.proofs.Common.{◌<◌, ◌≤◌, ◌∙◌, ap, length, map, arith}
use Rattle.std.proofs.lemmas.Option.{slice_get-map}
use Rattle.cil_base.proofs.RecordLemmas.{all_records}
use Rattle.cil_macros.specs.Items.{item_at, items_in}
use Rattle.cil_macros.proofs.ItemLemmas.{item_there}
use Rattle.cil_classes.specs.known.Known.{row_in}
use Rattle.cil_constraints.proofs.GatherLemmas.{more_records, none_taken, taken_there}
use Rattle.cil_constraints.proofs.gather.unsorted.Goals as goal

pub loop-at-init : goal.loop-at-init
loop-at-init c = λ switched names known apart standing classes given. none_taken _ _ _ c.new-list.ensures.items

pub loop-at-preserved : goal.loop-at-preserved
loop-at-preserved c =
    let k = c.args.known.now in
    let i = c.args.instances.now in
    let at = c.loop-at.at in
    let within : at < length (items_in i) = let t = c.loop-at-test.true in let n = c.len-at-end.ensures.items in omega (arith, t, n) in
    let row = c.row-words.ensures (map (row_in k) (items_in i)) (row_in k (item_at i at)) c.requires.table (slice_get-map (row_in k) (items_in i) at ∙ ap (option_map (row_in k)) (item_there i at within)) in
    λ switched names known apart standing classes given.
    more_records _ _ (items_in i) at (item_at i at) _ _ (taken_there (items_in i) at (item_at i at) within (item_there i at within)) (c.loop-at.invariant switched names known apart standing classes given)
    (c.in_ok-push_constraints.ensures (items_in i) switched names known apart standing classes given row)

pub returns : goal.returns
returns c = λ switched names known apart standing classes given.
    let n = c.len-at-end.ensures.items in
    let over : length (items_in c.args.instances.now) ≤ c.loop-at.at = let f = c.loop-at-test.false in omega (arith, f, n) in
    all_records _ _ (items_in c.args.instances.now) c.loop-at.at _ (c.loop-at.invariant switched names known apart standing classes given) over
