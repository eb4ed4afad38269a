use Rattle.std.specs.Prelude.{option_map}
use Rattle.std.proofs.Common.{◌<◌, ◌≤◌, ◌∙◌, List, ap, length, map, subst, arith}
use Rattle.std.proofs.lemmas.List.{take_all}
use Rattle.std.proofs.lemmas.Option.{slice_get-map}
use Rattle.cil_macros.specs.Item.{Item}
use Rattle.cil_macros.specs.Items.{item_at, items_in}
use Rattle.cil_macros.proofs.ItemLemmas.{item_there, items_taken}
use Rattle.cil_known.specs.Known.{enabled_in, row_in}
use Rattle.cil_tables.specs.Links.{AreJoinedBy}
use Rattle.cil_tables.proofs.HolderLemmas.{no_links}
use Rattle.cil_tables.proofs.LinkLemmas.{joined_more, links_listed, none_joined, nothing_more}
use Rattle.cil_tables.proofs.links.links_of.Goals as goal
use Rattle.cil_tables.proofs.links.links_of.Goals.{in-Some+in_ok-join, in_default}

pub loop-at-init : goal.loop-at-init
loop-at-init c = rw c.new-links.ensures (no_links, λ names known some others. none_joined _ _ _ _ _ _ _)

pub loop-at-preserved : goal.loop-at-preserved
loop-at-preserved c =
    let k = c.args.known.now in
    let i = c.args.instances.now in
    let at = c.loop-at.at in
    let within : at < length (items_in i) = let t = c.loop-at-test.true in let n = c.len-at-end.ensures.items in omega (arith, t, n) in
    let x = item_at i at in
    let row = c.row.ensures (map (row_in k) (items_in i)) (row_in k x) c.requires.table (slice_get-map (row_in k) (items_in i) at ∙ ap (option_map (row_in k)) (item_there i at within)) in
    elim c.match-joined_at.branch [
      | in-Some+in_ok-join w ↦ rw w.links-is (
        w.in_ok-join.ensures.rising,
        λ names known some others. joined_more _ _ _ _ _ _ _ (items_in i) at x (items_taken i at within) _ (c.loop-at.invariant.1 names known some others) _ _
            (w.in-Some.ensures (items_in i) names known some others row) _ w.in_ok-join.ensures,
      )
      | in_default w ↦ rw w.links-is (
        c.loop-at.invariant.0,
        λ names known some others. nothing_more _ _ _ _ _ _ _ (items_in i) at x (items_taken i at within) _ (c.loop-at.invariant.1 names known some others)
            (w.in_default.ensures (items_in i) names known some others row),
      )
    ]

pub returns : goal.returns
returns c = λ names known some others.
    let k = c.args.known.now in
    let j = c.args.joins in
    let xs = items_in c.args.instances.now in
    let over : length xs ≤ c.loop-at.at = let f = c.loop-at-test.false in let n = c.len-at-end.ensures.items in omega (arith, f, n) in
    links_listed xs (enabled_in k) j.keyword j.holder_kind j.held_kind (names j.holder_kind) (names j.held_kind) c.loop-at.links
    (subst (λ (ys : List Item). AreJoinedBy xs (enabled_in k) j.keyword j.holder_kind j.held_kind (names j.holder_kind) (names j.held_kind) ys c.loop-at.links) (take_all c.loop-at.at xs over)
    (c.loop-at.invariant.1 names known some others)) c.loop-at.invariant.0
