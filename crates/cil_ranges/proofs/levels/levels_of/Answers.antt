use Rattle.std.specs.Prelude.{length}
use Rattle.std.proofs.Common.{◌≡◌, ◌∙◌, ap, refl, arith}
use Rattle.cil_macros.specs.Items.{items_in}
use Rattle.cil_ranges.proofs.MadeLemmas.{ground, is_ground, measured_as}
use Rattle.cil_ranges.proofs.levels.levels_of.Goals as goal

pub name_tables-requires-clause-count : goal.name_tables-requires-clause-count
name_tables-requires-clause-count c =
    let held = (c.in_ok-measured.ensures c.requires.orders).held in
    let e = ap length c.as_slice-categories.ensures.value in
    let f = c.requires.orders.of_categories.len in
    omega (arith, held.count, f, e)

pub name_tables-requires-clause-few : goal.name_tables-requires-clause-few
name_tables-requires-clause-few c = (c.in_ok-measured.ensures c.requires.orders).held.few

pub judge-requires-clause-few : goal.judge-requires-clause-few
judge-requires-clause-few c = (c.in_ok-measured.ensures c.requires.orders).held.few

pub judge-requires-clause-count : goal.judge-requires-clause-count
judge-requires-clause-count c =
    let held = (c.in_ok-measured.ensures c.requires.orders).held in
    let e = ap length c.as_slice-categories.ensures.value in
    let f = c.requires.orders.of_categories.len in
    omega (arith, held.count, f, e)

pub returns : goal.returns
returns c =
    let k = c.args.known.now in
    let xs = items_in c.args.instances.now in
    let o = c.requires.orders in
    let are = c.in_ok-measured.ensures o in
    let m = c.in_ok-measured.measured in
    let g = ground k xs c.args.sections.now.sensitivities.items c.args.sections.now.categories.items c.args.orders.now o m are in
    let is = is_ground k xs c.args.sections.now.sensitivities.items c.args.sections.now.categories.items c.args.orders.now o m are in
    let count : length c.as_slice-categories.result.now ≡ length o.of_categories.row = ap length c.as_slice-categories.ensures.value ∙ o.of_categories.len in
    let right = measured_as k xs c.args.sections.now.sensitivities.items c.args.sections.now.categories.items c.args.orders.now o m are c.values_are_held.ensures (length c.as_slice-categories.result.now) count in
    let tables = c.in_ok-tables.ensures g refl right in
    let found = c.in_ok-found.ensures g refl right tables are.permitted in
    c.answer.ensures k g is are.permitted tables found
