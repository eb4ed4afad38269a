use Rattle.std.proofs.Common.{◌∙◌, arith}
use Rattle.cil_modset.proofs.RisingLemmas.{copied_more}
use Rattle.cil_modset.proofs.rows.copy_of.Goals as goal

pub loop-text-preserved : goal.loop-text-preserved
loop-text-preserved c = copied_more c.args.texts.now c.loop-text.copy.items c.push.new.self.items c.loop-text.text-index
    c.text-item.result c.in_ok-from_slice.field-0 c.loop-text.invariant (omega arith) c.text-item.is
    (c.in_ok-from_slice.ensures.items ∙ c.as_slice.ensures.value) c.in_ok-push.ensures.items
