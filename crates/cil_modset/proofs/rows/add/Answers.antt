use Rattle.cil_modset.proofs.RowChangeLemmas.{home_offered, order_offered}
use Rattle.cil_modset.proofs.RowLemmas.{row_rises}
use Rattle.cil_modset.proofs.rows.add.Goals as goal

pub put-result-requires : goal.put-result-requires
put-result-requires c =
    let at = rw c.as_slice.ensures.value at c.home_of-home.ensures in
    row_rises c.args.rows.now.items c.home_of-home.result c.index_mut.result.now c.requires at.within c.index_mut.ensures.value

pub part-requires-clause-order : goal.part-requires-clause-order
part-requires-clause-order c =
    let at = rw c.as_slice.ensures.value at c.home_of-home.ensures in
    order_offered c.args.rows.now.items c.home_of-home.result c.index_mut.result.now c.put-result.new.row c.args.text.now c.put-result.result c.requires at
    c.index_mut.ensures.value c.put-result.ensures

pub returns-else-len-clause-order : goal.returns-else-len-clause-order
returns-else-len-clause-order c =
    let at = rw c.as_slice.ensures.value at c.home_of-home.ensures in
    order_offered c.args.rows.now.items c.home_of-home.result c.index_mut.result.now c.put-result.new.row c.args.text.now c.put-result.result c.requires at
    c.index_mut.ensures.value c.put-result.ensures

pub returns-else-len-clause-offered : goal.returns-else-len-clause-offered
returns-else-len-clause-offered c =
    let at = rw c.as_slice.ensures.value at c.home_of-home.ensures in
    home_offered c.args.rows.now.items c.home_of-home.result c.index_mut.result.now c.put-result.new.row c.args.text.now c.put-result.result c.requires at
    c.index_mut.ensures.value c.put-result.ensures

pub returns-then-len-clause-offered : goal.returns-then-len-clause-offered
returns-then-len-clause-offered c =
    let at = rw c.as_slice.ensures.value at c.home_of-home.ensures in
    rw c.part.ensures.same
    (home_offered c.args.rows.now.items c.home_of-home.result c.index_mut.result.now c.put-result.new.row c.args.text.now c.put-result.result c.requires at
    c.index_mut.ensures.value c.put-result.ensures)
