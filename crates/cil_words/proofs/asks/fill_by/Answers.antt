use Rattle.std.proofs.Common.{map, ◌∙◌, ◌<◌, ◌≤◌, [], ap, arith, length, refl}
use Rattle.std.proofs.lemmas.List.{take_all}
use Rattle.cil_base.specs.MadeLists.{one_mapped}
use Rattle.cil_macros.specs.Items.{item_at, items_in, namespaces_in}
use Rattle.cil_macros.proofs.ItemLemmas.{item_got}
use Rattle.cil_names.specs.Rows.{lists_at}
use Rattle.cil_words.specs.Table.{numbered_asks}
use Rattle.cil_names.proofs.RowLemmas.{more_within, no_rows, none_within, pushed_list}
use Rattle.cil_words.proofs.asks.fill_by.Goals as goal

pub loop-at-init : goal.loop-at-init
loop-at-init c = (
  no_rows c.args.starts.now.items c.args.cells.now c.requires.none,
  none_within c.args.starts.now.items (length c.args.cells.now) c.requires.none,
  c.requires.scopes,
)

pub loop-at-preserved : goal.loop-at-preserved
loop-at-preserved c =
    let k = c.args.maker.now in
    let i = c.args.instances.now in
    let xs = items_in i in
    let f = numbered_asks (namespaces_in i) k.names.now xs k.permissions.now in
    let at = c.loop-at.at in
    let x = item_at i at in
    let within : at < length xs = let h = c.loop-at-test.true in let n = c.len-at-end.ensures.items in omega (arith, h, n) in
    let begun = c.in_ok-add.ensures.starts in
    let put = c.in_ok-add.ensures.asks in (
      one_mapped f xs at x x [] _ (lists_at c.add.new.starts.items c.add.new.cells) within (item_got i at within x) c.loop-at.invariant.0
          (pushed_list c.loop-at.cells (f x) c.loop-at.starts.items c.add.new.starts.items c.add.new.cells _ _ c.loop-at.invariant.1 refl refl begun put),
      more_within c.loop-at.cells (f x) c.loop-at.starts.items c.add.new.starts.items c.add.new.cells _ c.loop-at.invariant.1 refl begun put,
      c.in_ok-add.ensures.scopes,
    )

pub returns-clause-rows : goal.returns-clause-rows
returns-clause-rows c =
    let k = c.args.maker.now in
    let i = c.args.instances.now in
    let xs = items_in i in
    let over : length xs ≤ c.loop-at.at = let h = c.loop-at-test.false in let n = c.len-at-end.ensures.items in omega (arith, h, n) in
    c.loop-at.invariant.0 ∙ ap (map (numbered_asks (namespaces_in i) k.names.now xs k.permissions.now)) (take_all c.loop-at.at xs over)

pub returns-clause-within : goal.returns-clause-within
returns-clause-within c = c.loop-at.invariant.1
