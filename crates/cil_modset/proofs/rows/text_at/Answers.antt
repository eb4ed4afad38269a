use Rattle.std.proofs.Common.{◌∙◌, arith}
use Rattle.cil_modset.proofs.RowLemmas.{text_found}
use Rattle.cil_modset.proofs.rows.text_at.Goals as goal

pub returns-then-left-len : goal.returns-then-left-len
returns-then-left-len c =
    c.as_slice.ensures.value
    ∙ text_found c.args.rows.now c.loop-row.row-index c.loop-row.left c.args.i c.row-item.result c.index.result.now
    (omega arith) c.row-item.is c.loop-row.invariant (omega arith) c.index.ensures
