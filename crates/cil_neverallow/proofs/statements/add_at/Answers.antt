use Rattle.cil_index.specs.rules.Records.{ignored}
use Rattle.std.specs.Prelude.{option_map}
use Rattle.std.proofs.Common.{◌∙◌, ◌++◌, ◌∷◌, [], ap, map, refl, subst}
use Rattle.std.proofs.lemmas.Option.{slice_get-map}
use Rattle.cil_macros.specs.Items.{item_at, items_in}
use Rattle.cil_macros.proofs.ItemLemmas.{item_there}
use Rattle.cil_index.specs.known.Known.{row_in}
use Rattle.cil_neverallow.specs.Permissions.{AreApart}
use Rattle.cil_neverallow.proofs.StatementLemmas.{of_room, was_kept, was_left}
use Rattle.cil_neverallow.proofs.statements.add_at.Goals as goal

pub returns-then-not-name_some-clause-added : goal.returns-then-not-name_some-clause-added
returns-then-not-name_some-clause-added c = λ names known apart standing classes given.
    let k = c.args.known.now in
    let i = c.args.instances.now in
    let x = item_at i c.args.at in
    let row = c.row-words.ensures (map (row_in k) (items_in i)) (row_in k x) c.requires.table
    (slice_get-map (row_in k) (items_in i) c.args.at ∙ ap (option_map (row_in k)) (item_there i c.args.at c.requires.within)) in
    was_left _ _ c.args.types.now c.args.masks.now x c.push_rules.new.out.items c.args.kept.now _ c.args.at refl
    (subst (AreApart c.args.masks.now) c.as_slice-named.ensures.value (c.name_some.ensures c.if-not-name_some.true))
    (of_room _ _ c.args.types.now x c.args.at _ _ c.clear.ensures.items (c.in_ok-push_rules.ensures (items_in i) [] ignored tt tt names known apart standing classes given row))

pub returns-clause-added : goal.returns-clause-added
returns-clause-added c = λ names known apart standing classes given.
    let k = c.args.known.now in
    let i = c.args.instances.now in
    let x = item_at i c.args.at in
    let row = c.row-words.ensures (map (row_in k) (items_in i)) (row_in k x) c.requires.table
    (slice_get-map (row_in k) (items_in i) c.args.at ∙ ap (option_map (row_in k)) (item_there i c.args.at c.requires.within)) in
    was_kept _ _ c.args.types.now c.args.masks.now x _ c.args.kept.now c.push.new.self c.args.at
    (c.in_ok-push.ensures ∙ ap (λ l. c.args.kept.now ++ record { place = c.args.at; rules = l } ∷ []) c.as_slice-named.ensures.value)
    (of_room _ _ c.args.types.now x c.args.at _ _ c.clear.ensures.items (c.in_ok-push_rules.ensures (items_in i) [] ignored tt tt names known apart standing classes given row))
