use Rattle.std.proofs.Common.{ap, ◌∙◌, arith}
use Rattle.cil_modset.specs.Modules.{texts_of}
use Rattle.cil_modset.specs.Rows.{joined}
use Rattle.cil_modset.proofs.RowChangeLemmas.{joined_parted, order_parted, joined_same, order_same}
use Rattle.cil_modset.proofs.rows.part.Goals as goal

pub returns-clause-order : goal.returns-clause-order
returns-clause-order c =
    let rows = c.reserve.new.self.items in
    let items = rw c.unwrap.ensures at c.insert.ensures.items in
    rw items (order_parted rows c.args.k c.index_mut.result.now c.halve.new.row c.in_ok-back.back (rw c.reserve.ensures.items c.requires.order)
    (omega arith) c.index_mut.ensures.value c.in_ok-back.ensures.halves c.in_ok-back.ensures.front c.in_ok-back.ensures.back)

pub returns-clause-same : goal.returns-clause-same
returns-clause-same c =
    let rows = c.reserve.new.self.items in
    let items = rw c.unwrap.ensures at c.insert.ensures.items in
    ap joined items
    ∙ joined_parted rows c.args.k c.index_mut.result.now c.halve.new.row c.in_ok-back.back (omega arith) c.index_mut.ensures.value c.in_ok-back.ensures.halves
    ∙ ap joined c.reserve.ensures.items

pub returns-in_err-back-clause-order : goal.returns-in_err-back-clause-order
returns-in_err-back-clause-order c =
    order_same c.reserve.new.self.items c.args.k c.index_mut.result.now c.halve.new.row (rw c.reserve.ensures.items c.requires.order)
    (omega arith) c.index_mut.ensures.value (ap texts_of c.in_err-back.ensures.err)

pub returns-in_err-back-clause-same : goal.returns-in_err-back-clause-same
returns-in_err-back-clause-same c =
    joined_same c.reserve.new.self.items c.args.k c.index_mut.result.now c.halve.new.row (omega arith) c.index_mut.ensures.value
    (ap texts_of c.in_err-back.ensures.err)
    ∙ ap joined c.reserve.ensures.items
