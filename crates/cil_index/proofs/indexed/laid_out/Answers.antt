use Rattle.cil_index.proofs.indexed.laid_out.Goals as goal

pub index_of-requires : goal.index_of-requires
index_of-requires c = c.requires.sorted

pub order_of-requires : goal.order_of-requires
order_of-requires c = c.requires.within

pub records_in-requires : goal.records_in-requires
records_in-requires c = c.requires.within

pub returns-clause-index : goal.returns-clause-index
returns-clause-index c = c.in_ok-index.ensures

pub returns-clause-records : goal.returns-clause-records
returns-clause-records c = c.in_ok-records.ensures

pub returns-clause-order : goal.returns-clause-order
returns-clause-order c = c.in_ok-order.ensures
