use Rattle.std.proofs.Common.{arith, get_or}
use Rattle.cil_base.specs.Places.{is_there}
use Rattle.cil_names.specs.Unresolved.{term_with}
use Rattle.std.proofs.lemmas.Result.{IfOk-from_err}
use Rattle.cil_classes.specs.Parts.{IsHeldAt}
use Rattle.cil_classes.proofs.LeadLemmas.{all_of_run, held_wanted, one_more, wanted_held}
use Rattle.cil_classes.proofs.parts.held_nodes.Goals as goal

pub loop-v-preserved : goal.loop-v-preserved
loop-v-preserved c = λ f m permissions rising numbered among.
    let so = c.loop-v.invariant f m permissions rising numbered among in
    let e = term_with f m c.args.expression.now in
    let high = c.loop-v-test.true in
    let within = c.requires.within in
    let node = get_or c.args.nodes.now c.loop-v.v record { entry = 0; number = 0 } in
    let here = is_there c.args.nodes.now c.loop-v.v record { entry = 0; number = 0 } (omega (arith, high, within)) in
    let held = c.holds.ensures f m permissions rising numbered in
    one_more (IsHeldAt permissions c.args.nodes.now e) c.args.run c.loop-v.v c.loop-v.from.items _ c.holds.result high so
    (wanted_held permissions c.args.nodes.now c.args.run e among c.loop-v.v so.low high node here c.holds.result held)
    (held_wanted permissions c.args.nodes.now c.args.run e among c.loop-v.v so.low high node here c.holds.result held)
    c.in_ok-push_if.ensures

pub returns : goal.returns
returns c = λ f m permissions rising numbered among v.
    all_of_run (IsHeldAt permissions c.args.nodes.now (term_with f m c.args.expression.now)) c.args.run c.loop-v.v c.loop-v.from.items c.loop-v-test.false
    (c.loop-v.invariant f m permissions rising numbered among) v

pub returns-in_err-push_if : goal.returns-in_err-push_if
returns-in_err-push_if c = IfOk-from_err c.from_residual.result _ c.from_residual.ensures.0
