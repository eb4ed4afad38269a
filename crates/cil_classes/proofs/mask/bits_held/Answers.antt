use Rattle.std.proofs.Common.{arith}
use Rattle.cil_names.specs.Unresolved.{term_with}
use Rattle.cil_classes.proofs.MaskLemmas.{all_below, none_below, one_below}
use Rattle.cil_classes.proofs.mask.bits_held.Goals as goal

pub loop-number-init : goal.loop-number-init
loop-number-init c = λ f m permissions rising len are. none_below permissions (term_with f m c.args.term.now)

pub loop-number-preserved : goal.loop-number-preserved
loop-number-preserved c = λ f m permissions rising len are.
    let few = c.requires in
    one_below permissions (term_with f m c.args.term.now) c.loop-number.number c.loop-number.mask c.bit_if-mask.result c.holds.result (omega arith) (omega arith)
    (c.loop-number.invariant f m permissions rising len are) (c.holds.ensures f m permissions rising are) c.bit_if-mask.ensures

pub returns : goal.returns
returns c = λ f m permissions rising len are.
    all_below permissions (term_with f m c.args.term.now) c.loop-number.number c.loop-number.mask (omega arith) (c.loop-number.invariant f m permissions rising len are)
