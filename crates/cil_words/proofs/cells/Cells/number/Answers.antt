use Rattle.std.proofs.Common.{arith, ◌∙◌, ap, ◌<◌, ◌-◌, ◌≤◌}
use Rattle.cil_words.specs.Cells.{many, paired}
use Rattle.cil_words.specs.Table.{Ask}
use Rattle.cil_words.proofs.CellLemmas.{row_of_many, row_of_none, row_of_one, row_of_pair}
use Rattle.cil_words.proofs.cells.Cells.number.Goals as goal

pub returns-in_default : goal.returns-in_default
returns-in_default c =
    let i = c.self.inside in
    ap (λ (k : Ask). k.number) (row_of_none i.pairs.owners.items i.pairs.places.items i.lists i.cells.items c.as_slice-cells.result.now c.args.self.now c.self.view_is c.as_slice-cells.ensures.value c.args.number c.in_default.ensures)

pub returns-then-cell-lt-PAIRED : goal.returns-then-cell-lt-PAIRED
returns-then-cell-lt-PAIRED c =
    let i = c.self.inside in
    ap (λ (k : Ask). k.number)
    (row_of_one i.pairs.owners.items i.pairs.places.items i.lists i.cells.items c.as_slice-cells.result.now c.args.self.now c.self.view_is c.as_slice-cells.ensures.value c.args.number c.in-Some.cell c.in-Some.ensures
    c.if-cell-lt-PAIRED.true)

pub returns-then-cell-ge-MANY : goal.returns-then-cell-ge-MANY
returns-then-cell-ge-MANY c =
    let i = c.self.inside in
    let high : many ≤ c.in-Some.cell = c.if-cell-ge-MANY.true in
    ap (λ (k : Ask). k.number)
    (row_of_many i.pairs.owners.items i.pairs.places.items i.lists i.cells.items c.as_slice-cells.result.now c.args.self.now c.self.view_is c.as_slice-cells.ensures.value c.args.number c.in-Some.cell c.in-Some.ensures
    (c.in-Some.cell - many) (omega (arith, high)))

pub returns : goal.returns
returns c =
    let i = c.self.inside in
    let low : paired ≤ c.in-Some.cell = c.if-cell-lt-PAIRED.false in
    let high : c.in-Some.cell < many = c.if-cell-ge-MANY.false in
    c.number.ensures
    ∙ ap (λ (k : Ask). k.number)
    (row_of_pair i.pairs.owners.items i.pairs.places.items i.lists i.cells.items c.as_slice-cells.result.now c.args.self.now c.self.view_is c.as_slice-cells.ensures.value c.args.number c.in-Some.cell c.in-Some.ensures
    (c.in-Some.cell - paired) (omega (arith, low)) high)
