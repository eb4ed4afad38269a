use Rattle.std.proofs.Common.{◌≡◌, ◌+◌, ◌∙◌, ap, arith, get_or, length, subst, sym}
use Rattle.std.specs.declared.alloc.Global.{Global}
use Rattle.std.specs.declared.vec.Vec.{Vec}
use Rattle.std.proofs.lemmas.List.{drop_all}
use Rattle.cil_syntax.specs.Said.{args_of, said_of}
use Rattle.cil_macros.specs.declared.meant.Argument.{Argument}
use Rattle.cil_macros.specs.Calls.{bound}
use Rattle.cil_macros.specs.Meant.{AreArguments}
use Rattle.cil_macros.specs.Parameters.{parameters_in}
use Rattle.cil_macros.specs.Scene.{placed_of_scene}
use Rattle.cil_macros.specs.Walks.{written_in}
use Rattle.cil_macros.proofs.ArgumentLemmas.{parameters_listed}
use Rattle.cil_macros.proofs.OpeningLemmas.{IsPut, put_all, put_first, put_none, put_one, put_over}
use Rattle.cil_macros.proofs.ArgumentValues.{value_of_kind}
use Rattle.cil_macros.proofs.openings.Call.meanings.Goals.{in-Some+in-Some-get+in_ok-value+in_ok-push, in_default}
use Rattle.cil_macros.proofs.openings.Call.meanings.Goals as goal

pub loop-term-init : goal.loop-term-init
loop-term-init c = λ p bs here all.
    let s = c.args.self.now.scene.now in
    put_first (written_in s.spaces.now) p (placed_of_scene s) c.args.called.now.at.«module» c.args.call.now.at.«module» c.listed-term-items.result.now
    c.listed-arguments.result.now bs c.new-meanings.result.items c.new-meanings.ensures.items all

pub returns-in_default-get : goal.returns-in_default-get
returns-in_default-get c = λ p bs here all.
    let s = c.args.self.now.scene.now in
    let params = parameters_listed (args_of c.args.called.now) ∙ ap parameters_in (sym c.listed-term-items.ensures) in
    let gone = c.in_default-get.ensures.lookup.3 in
    let l = c.len.ensures in
    let n = c.loop-term.meanings.ok.0 in
    absurd (put_none (written_in s.spaces.now) p (placed_of_scene s) c.args.called.now.at.«module» c.args.call.now.at.«module» c.listed-term-items.result.now
    c.listed-arguments.result.now bs c.loop-term.term-index c.loop-term.meanings.items c.term-item.result c.loop-term-test.true c.term-item.is
    (c.loop-term.invariant p bs here ((λ i. bound (written_in s.spaces.now) p (sym params i) (c.listed-arguments.ensures i)) ∙ all))
    c.in-Some.parameter.kind _ c.in-Some.ensures
    (drop_all (length c.loop-term.meanings.items) c.listed-arguments.result.now (omega (arith, gone, l, n))))

pub loop-term-preserved : goal.loop-term-preserved
loop-term-preserved c = elim c.match-parameter.branch [
  | in-Some+in-Some-get+in_ok-value+in_ok-push w ↦ λ p bs here all.
      let s = c.args.self.now.scene.now in
      let l = w.len.ensures in
      let n = c.loop-term.meanings.ok.0 in
      let same : w.len.result ≡ length c.loop-term.meanings.items = omega (arith, l, n) in
      let within = w.in-Some-get.ensures.lookup.3.0 in
      let new = ap (λ (v : Vec Argument Global). v.items) w.meanings-is ∙ w.in_ok-push.ensures.items in
      put_one (written_in s.spaces.now) p (placed_of_scene s) c.args.called.now.at.«module» c.args.call.now.at.«module» c.listed-term-items.result.now
      c.listed-arguments.result.now bs c.loop-term.term-index c.loop-term.meanings.items c.term-item.result c.loop-term-test.true c.term-item.is
      (c.loop-term.invariant p bs here all) w.in-Some.parameter.kind _ w.in-Some.ensures w.in-Some-get.argument.now (omega (arith, within, same))
      (w.in-Some-get.ensures.lookup.1 ∙ ap (λ k. get_or c.listed-arguments.result.now k w.in-Some-get.argument.now) same)
      w.in_ok-value.value c.match-parameter.meanings.items new
      (λ value is. w.in_ok-value.ensures p value here (value_of_kind _ (said_of c.args.call.now.at.«module» w.in-Some-get.argument.now) value is))
  | in_default w ↦ λ p bs here all.
      let s = c.args.self.now.scene.now in
      let same = ap (λ (v : Vec Argument Global). v.items) w.meanings-is in
      subst (λ ms. IsPut (written_in s.spaces.now) p (placed_of_scene s) c.args.called.now.at.«module» c.args.call.now.at.«module» c.listed-term-items.result.now
      c.listed-arguments.result.now bs (c.loop-term.term-index + 1) ms) (sym same)
      (put_over (written_in s.spaces.now) p (placed_of_scene s) c.args.called.now.at.«module» c.args.call.now.at.«module» c.listed-term-items.result.now
      c.listed-arguments.result.now bs c.loop-term.term-index c.loop-term.meanings.items c.term-item.result c.loop-term-test.true c.term-item.is
      (c.loop-term.invariant p bs here all) w.in_default.ensures)
]

pub returns : goal.returns
returns c = λ p bs here all.
    let s = c.args.self.now.scene.now in
    let params = parameters_listed (args_of c.args.called.now) ∙ ap parameters_in (sym c.listed-term-items.ensures) in
    let over = c.loop-term-test.false in
    subst (λ xs. AreArguments (placed_of_scene s) xs bs c.loop-term.meanings.items) (sym params)
    (put_all (written_in s.spaces.now) p (placed_of_scene s) c.args.called.now.at.«module» c.args.call.now.at.«module» c.listed-term-items.result.now
    c.listed-arguments.result.now bs c.loop-term.term-index c.loop-term.meanings.items (omega (arith, over))
    (c.loop-term.invariant p bs here ((λ i. bound (written_in s.spaces.now) p (sym params i) (c.listed-arguments.ensures i)) ∙ all)))
