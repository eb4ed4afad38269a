use Rattle.std.proofs.Common.{◌∙◌, arith, refl, sym}
use Rattle.cil_macros.specs.Meant.{is_list}
use Rattle.cil_macros.proofs.AnyLemmas.{none_is, one_is, one_not}
use Rattle.cil_macros.proofs.openings.has_list.Goals as goal

pub loop-argument-init : goal.loop-argument-init
loop-argument-init c = refl

pub loop-argument-preserved : goal.loop-argument-preserved
loop-argument-preserved c =
    one_not is_list c.args.arguments.now c.loop-argument.argument-index c.argument-item.result c.loop-argument-test.true c.argument-item.is c.loop-argument.invariant
    (sym c.is_list.ensures ∙ c.if-is_list.false)

pub returns-then-is_list : goal.returns-then-is_list
returns-then-is_list c =
    one_is is_list c.args.arguments.now c.loop-argument.argument-index c.argument-item.result c.loop-argument-test.true c.argument-item.is c.loop-argument.invariant
    (sym c.is_list.ensures ∙ c.if-is_list.true)

pub returns : goal.returns
returns c =
    let over = c.loop-argument-test.false in
    none_is is_list c.args.arguments.now c.loop-argument.argument-index (omega (arith, over)) c.loop-argument.invariant
