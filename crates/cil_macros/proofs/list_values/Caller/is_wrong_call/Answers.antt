use Rattle.std.proofs.Common.{◌+◌, ◌∙◌, ap, subst, sym}
use Rattle.std.specs.List.{list_any}
use Rattle.std.proofs.lemmas.List.{drop_all}
use Rattle.cil_syntax.specs.Said.{args_of, said_of}
use Rattle.cil_macros.specs.Calls.{bound}
use Rattle.cil_macros.specs.ExpandFaults.{asked_words}
use Rattle.cil_macros.specs.ListPlaces.{is_wrong_word}
use Rattle.cil_macros.specs.Parameters.{cell_in, argument_kind, parameters_in, read_argument}
use Rattle.cil_macros.specs.Walks.{written_in}
use Rattle.cil_macros.proofs.ArgumentLemmas.{parameters_listed}
use Rattle.cil_macros.proofs.ListPlaceLemmas.{AreSearched, all_searched, none_searched, search_found, search_none, search_on, search_over}
use Rattle.cil_macros.proofs.list_values.Caller.is_wrong_call.Goals.{in-Some+in-Some-get+in_ok-wrong+else-wrong, in_default}
use Rattle.cil_macros.proofs.list_values.Caller.is_wrong_call.Goals as goal

pub loop-term-init : goal.loop-term-init
loop-term-init c = λ p bs here all.
    none_searched (written_in c.args.self.now.scene.now.spaces.now) p c.args.called.now.at.«module» c.args.call.now.at.«module» c.listed-term-items.result.now c.listed-arguments.result.now bs all

pub returns-in_default-get : goal.returns-in_default-get
returns-in_default-get c = λ p bs here all.
    let ws = written_in c.args.self.now.scene.now.spaces.now in
    let params = parameters_listed (args_of c.args.called.now) ∙ ap parameters_in (sym c.listed-term-items.ensures) in
    absurd (search_none ws p c.args.called.now.at.«module» c.args.call.now.at.«module» c.listed-term-items.result.now c.listed-arguments.result.now c.loop-term.term-index c.loop-term.taken
    c.term-item.result c.loop-term-test.true c.term-item.is (c.loop-term.invariant p bs here ((λ i. bound ws p (sym params i) (c.listed-arguments.ensures i)) ∙ all)) c.in-Some.parameter.kind _
    c.in-Some.ensures (drop_all c.loop-term.taken c.listed-arguments.result.now c.in_default-get.ensures.lookup.3))

pub returns-then-wrong : goal.returns-then-wrong
returns-then-wrong c = λ p bs here all.
    let ws = written_in c.args.self.now.scene.now.spaces.now in
    let params = parameters_listed (args_of c.args.called.now) ∙ ap parameters_in (sym c.listed-term-items.ensures) in
    let a = c.in-Some-get.argument.now in
    search_found ws p c.args.called.now.at.«module» c.args.call.now.at.«module» c.listed-term-items.result.now c.listed-arguments.result.now c.loop-term.term-index c.loop-term.taken
    c.term-item.result c.loop-term-test.true c.term-item.is (c.loop-term.invariant p bs here ((λ i. bound ws p (sym params i) (c.listed-arguments.ensures i)) ∙ all)) c.in-Some.parameter.kind _
    c.in-Some.ensures a c.in-Some-get.ensures.lookup.3.0 c.in-Some-get.ensures.lookup.1 c.in_ok-wrong.wrong
    (λ v is. c.in_ok-wrong.ensures p v here (ap (λ k. read_argument (argument_kind c.in-Some.parameter.kind) (cell_in (said_of k a))) (sym c.requires.here) ∙ is)) c.if-wrong.true
    ∙ (λ i. list_any (is_wrong_word ws p) (asked_words (sym params i) (c.listed-arguments.ensures i)))

pub loop-term-preserved : goal.loop-term-preserved
loop-term-preserved c = elim c.match-parameter.branch [
  | in-Some+in-Some-get+in_ok-wrong+else-wrong w ↦ λ p bs here all.
      let ws = written_in c.args.self.now.scene.now.spaces.now in
      let a = w.in-Some-get.argument.now in
      subst (λ k. AreSearched ws p c.args.called.now.at.«module» c.args.call.now.at.«module» c.listed-term-items.result.now c.listed-arguments.result.now (c.loop-term.term-index + 1) k)
      (sym w.taken-is)
      (search_on ws p c.args.called.now.at.«module» c.args.call.now.at.«module» c.listed-term-items.result.now c.listed-arguments.result.now c.loop-term.term-index c.loop-term.taken
      c.term-item.result c.loop-term-test.true c.term-item.is (c.loop-term.invariant p bs here all) w.in-Some.parameter.kind _ w.in-Some.ensures a w.in-Some-get.ensures.lookup.3.0
      w.in-Some-get.ensures.lookup.1 w.in_ok-wrong.wrong
      (λ v is. w.in_ok-wrong.ensures p v here (ap (λ k. read_argument (argument_kind w.in-Some.parameter.kind) (cell_in (said_of k a))) (sym c.requires.here) ∙ is)) w.if-wrong.false)
  | in_default w ↦ λ p bs here all.
      let ws = written_in c.args.self.now.scene.now.spaces.now in
      subst (λ k. AreSearched ws p c.args.called.now.at.«module» c.args.call.now.at.«module» c.listed-term-items.result.now c.listed-arguments.result.now (c.loop-term.term-index + 1) k)
      (sym w.taken-is)
      (search_over ws p c.args.called.now.at.«module» c.args.call.now.at.«module» c.listed-term-items.result.now c.listed-arguments.result.now c.loop-term.term-index c.loop-term.taken
      c.term-item.result c.loop-term-test.true c.term-item.is (c.loop-term.invariant p bs here all) w.in_default.ensures)
]

pub returns : goal.returns
returns c = λ p bs here all.
    let ws = written_in c.args.self.now.scene.now.spaces.now in
    let params = parameters_listed (args_of c.args.called.now) ∙ ap parameters_in (sym c.listed-term-items.ensures) in
    all_searched ws p c.args.called.now.at.«module» c.args.call.now.at.«module» c.listed-term-items.result.now c.listed-arguments.result.now c.loop-term.term-index c.loop-term.taken
    c.loop-term-test.false (c.loop-term.invariant p bs here ((λ i. bound ws p (sym params i) (c.listed-arguments.ensures i)) ∙ all))
    ∙ (λ i. list_any (is_wrong_word ws p) (asked_words (sym params i) (c.listed-arguments.ensures i)))
