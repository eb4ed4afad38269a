use Rattle.cil_index.proofs.OrderLemmas.{records_listed}
use Rattle.cil_index.proofs.record.records_of.Goals as goal

pub returns : goal.returns
returns c = λ distinct named rising size are.
    let r = c.in_ok-records.ensures distinct named size are in
    records_listed c.args.branches.now c.requires distinct rising _ _ _ _ r.0 r.1 c.sort_unstable.ensures.permutation c.sort_unstable.ensures.sorted c.dedup.ensures.filtered
