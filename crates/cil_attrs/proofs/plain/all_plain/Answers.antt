use Rattle.std.proofs.Common.{sym, ◌∙◌}
use Rattle.cil_attrs.proofs.PlainLemmas.{all_given, none_given, one_given}
use Rattle.cil_attrs.proofs.plain.all_plain.Goals as goal

pub loop-given-init : goal.loop-given-init
loop-given-init c = none_given c.args.givens.now

pub loop-given-preserved : goal.loop-given-preserved
loop-given-preserved c =
    one_given c.args.givens.now c.loop-given.given-index c.given-item.result c.loop-given-test.true c.given-item.is (sym (c.is_plain.ensures c.given-item.result.«module») ∙ c.if-not-is_plain.false) c.loop-given.invariant

pub returns : goal.returns
returns c t = all_given c.args.givens.now c.loop-given.given-index c.loop-given-test.false c.loop-given.invariant
