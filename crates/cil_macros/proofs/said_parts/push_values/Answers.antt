use Rattle.std.proofs.Common.{◌≡◌, ◌+◌, ◌++◌, ◌∙◌, ap, arith, subst, sym}
use Rattle.std.specs.declared.alloc.Global.{Global}
use Rattle.std.specs.declared.vec.Vec.{Vec}
use Rattle.cil_base.specs.Places.{there_as}
use Rattle.cil_syntax.specs.Said.{args_of}
use Rattle.cil_macros.specs.declared.listed.Part.{Part}
use Rattle.cil_macros.specs.Items.{values_of}
use Rattle.cil_macros.specs.Listed.{all_parts_of, parts_there}
use Rattle.cil_macros.specs.Meant.{bounds_by}
use Rattle.cil_macros.specs.Parameters.{parameters_in}
use Rattle.cil_macros.proofs.ArgumentLemmas.{parameters_listed}
use Rattle.cil_macros.proofs.SaidPartLemmas.{ArePushed, all_pushed, no_more_pushed, none_pushed, one_pushed, over_pushed}
use Rattle.cil_macros.proofs.said_parts.push_values.Goals.{in-Some+in-Some-get+in_ok-push_value, in_default}
use Rattle.cil_macros.proofs.said_parts.push_values.Goals as goal

pub loop-term-init : goal.loop-term-init
loop-term-init c = none_pushed c.args.called.now.at.«module» c.listed-term-items.result.now c.args.arguments.now c.args.parts.now.items

pub returns-in_default-get : goal.returns-in_default-get
returns-in_default-get c = λ ps whole.
    let params = parameters_listed (args_of c.args.called.now) ∙ ap parameters_in (sym c.listed-term-items.ensures) in
    subst (λ xs. parts_there ps c.loop-term.parts.items ≡ parts_there ps c.args.parts.now.items ++ all_parts_of (values_of (bounds_by ps xs c.args.arguments.now))) (sym params)
    (no_more_pushed c.args.called.now.at.«module» c.listed-term-items.result.now c.args.arguments.now c.args.parts.now.items c.loop-term.term-index c.loop-term.taken c.loop-term.parts.items
    c.loop-term.invariant c.in_default-get.ensures.lookup.3 ps whole)

pub returns : goal.returns
returns c = λ ps whole.
    let params = parameters_listed (args_of c.args.called.now) ∙ ap parameters_in (sym c.listed-term-items.ensures) in
    let over = c.loop-term-test.false in
    subst (λ xs. parts_there ps c.loop-term.parts.items ≡ parts_there ps c.args.parts.now.items ++ all_parts_of (values_of (bounds_by ps xs c.args.arguments.now))) (sym params)
    (all_pushed c.args.called.now.at.«module» c.listed-term-items.result.now c.args.arguments.now c.args.parts.now.items c.loop-term.term-index c.loop-term.taken c.loop-term.parts.items
    c.loop-term.invariant (omega (arith, over)) ps whole)

pub loop-term-preserved : goal.loop-term-preserved
loop-term-preserved c = elim c.match-parameter.branch [
  | in-Some+in-Some-get+in_ok-push_value w ↦
      let a = w.in-Some-get.argument.now in
      let pushed = one_pushed c.args.called.now.at.«module» c.listed-term-items.result.now c.args.arguments.now c.args.parts.now.items c.loop-term.term-index c.loop-term.taken
      c.loop-term.parts.items c.loop-term.invariant c.term-item.result c.loop-term-test.true c.term-item.is w.in-Some.parameter.kind _ w.in-Some.ensures a
      (there_as c.args.arguments.now c.loop-term.taken a w.in-Some-get.ensures.lookup.3.0 w.in-Some-get.ensures.lookup.1) w.in-Some-get.ensures.lookup.3.0
      w.in-Some-get.ensures.lookup.1 w.push_value.new.parts.items w.in_ok-push_value.ensures in
      subst (λ k. ArePushed c.args.called.now.at.«module» c.listed-term-items.result.now c.args.arguments.now c.args.parts.now.items (c.loop-term.term-index + 1) k c.match-parameter.parts.items)
      (sym w.taken-is)
      (subst (λ (v : Vec Part Global). ArePushed c.args.called.now.at.«module» c.listed-term-items.result.now c.args.arguments.now c.args.parts.now.items (c.loop-term.term-index + 1)
      (c.loop-term.taken + 1) v.items) (sym w.parts-is) pushed)
  | in_default w ↦
      let over = over_pushed c.args.called.now.at.«module» c.listed-term-items.result.now c.args.arguments.now c.args.parts.now.items c.loop-term.term-index c.loop-term.taken
      c.loop-term.parts.items c.loop-term.invariant c.term-item.result c.loop-term-test.true c.term-item.is w.in_default.ensures in
      subst (λ k. ArePushed c.args.called.now.at.«module» c.listed-term-items.result.now c.args.arguments.now c.args.parts.now.items (c.loop-term.term-index + 1) k c.match-parameter.parts.items)
      (sym w.taken-is)
      (subst (λ (v : Vec Part Global). ArePushed c.args.called.now.at.«module» c.listed-term-items.result.now c.args.arguments.now c.args.parts.now.items (c.loop-term.term-index + 1)
      c.loop-term.taken v.items) (sym w.parts-is) over)
]
