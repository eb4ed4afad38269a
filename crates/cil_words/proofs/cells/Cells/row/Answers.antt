use Rattle.std.proofs.Common.{rules, arith, ◌∙◌, ap, sym}
use Rattle.cil_words.specs.Table.{Ask}
use Rattle.cil_words.proofs.CellLemmas.{row_of_many, row_of_none, row_of_one, row_of_pair}
use Rattle.cil_words.proofs.cells.Cells.row.Goals as goal

pub returns-in_default : goal.returns-in_default
returns-in_default c =
    let i = c.self.inside in
    ap (λ (k : Ask). k.could) (row_of_none i.pairs.owners.items i.pairs.places.items i.lists i.cells.items c.as_slice-cells.result.now c.args.self.now c.self.view_is c.as_slice-cells.ensures.value c.args.number c.in_default.ensures)

pub returns-then-cell-lt-PAIRED : goal.returns-then-cell-lt-PAIRED
returns-then-cell-lt-PAIRED c =
    let i = c.self.inside in
    c.one.ensures c.in-Some.cell (sym c.in-Some.ensures)
    ∙ ap (λ (k : Ask). k.could)
    (row_of_one i.pairs.owners.items i.pairs.places.items i.lists i.cells.items c.as_slice-cells.result.now c.args.self.now c.self.view_is c.as_slice-cells.ensures.value c.args.number c.in-Some.cell c.in-Some.ensures
    c.if-cell-lt-PAIRED.true)

pub returns-in-None : goal.returns-in-None
returns-in-None c =
    let i = c.self.inside in
    c.owner.ensures
    ∙ ap (λ (k : Ask). k.could)
    (row_of_pair i.pairs.owners.items i.pairs.places.items i.lists i.cells.items c.as_slice-cells.result.now c.args.self.now c.self.view_is c.as_slice-cells.ensures.value c.args.number c.in-Some.cell c.in-Some.ensures
    _ (search (rules, arith)) (search (rules, arith)))

pub returns-in-Some-checked_sub : goal.returns-in-Some-checked_sub
returns-in-Some-checked_sub c =
    let i = c.self.inside in
    c.row.ensures
    ∙ ap (λ (k : Ask). k.could)
    (row_of_many i.pairs.owners.items i.pairs.places.items i.lists i.cells.items c.as_slice-cells.result.now c.args.self.now c.self.view_is c.as_slice-cells.ensures.value c.args.number c.in-Some.cell c.in-Some.ensures
    _ (search (rules, arith)))
