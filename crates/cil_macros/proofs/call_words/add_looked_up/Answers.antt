use Rattle.std.proofs.Common.{◌≡◌, ◌+◌, ◌++◌, ◌∙◌, map, ap, arith, subst, sym}
use Rattle.std.specs.declared.alloc.Global.{Global}
use Rattle.std.specs.declared.vec.Vec.{Vec}
use Rattle.cil_syntax.specs.Said.{args_of}
use Rattle.cil_macros.specs.declared.placed_word.PlacedWord.{PlacedWord}
use Rattle.cil_macros.specs.Items.{argument_words, scoped_by}
use Rattle.cil_macros.specs.Meant.{bounds_by}
use Rattle.cil_macros.specs.Parameters.{parameters_in}
use Rattle.cil_macros.proofs.ArgumentLemmas.{parameters_listed}
use Rattle.cil_macros.proofs.CallWordLemmas.{AreAdded, all_added, no_more_added, none_added, one_added, passed_over}
use Rattle.cil_macros.proofs.call_words.add_looked_up.Goals.{in-Some+in-Some-get+in_ok-add_argument, in_default}
use Rattle.cil_macros.proofs.call_words.add_looked_up.Goals as goal

pub loop-term-init : goal.loop-term-init
loop-term-init c = none_added c.args.called.now.at.«module» c.listed-term-items.result.now c.args.arguments.now c.args.words.now.items

pub returns-in_default-get : goal.returns-in_default-get
returns-in_default-get c = λ ps.
    let params = parameters_listed (args_of c.args.called.now) ∙ ap parameters_in (sym c.listed-term-items.ensures) in
    subst (λ xs. map (scoped_by ps) c.loop-term.words.items ≡ map (scoped_by ps) c.args.words.now.items ++ argument_words (bounds_by ps xs c.args.arguments.now)) (sym params)
    (no_more_added c.args.called.now.at.«module» c.listed-term-items.result.now c.args.arguments.now c.args.words.now.items c.loop-term.term-index c.loop-term.taken c.loop-term.words.items
    c.loop-term.invariant c.in_default-get.ensures.lookup.3 ps)

pub returns : goal.returns
returns c = λ ps.
    let params = parameters_listed (args_of c.args.called.now) ∙ ap parameters_in (sym c.listed-term-items.ensures) in
    let over = c.loop-term-test.false in
    subst (λ xs. map (scoped_by ps) c.loop-term.words.items ≡ map (scoped_by ps) c.args.words.now.items ++ argument_words (bounds_by ps xs c.args.arguments.now)) (sym params)
    (all_added c.args.called.now.at.«module» c.listed-term-items.result.now c.args.arguments.now c.args.words.now.items c.loop-term.term-index c.loop-term.taken c.loop-term.words.items
    c.loop-term.invariant (omega (arith, over)) ps)

pub loop-term-preserved : goal.loop-term-preserved
loop-term-preserved c = elim c.match-parameter.branch [
  | in-Some+in-Some-get+in_ok-add_argument w ↦
      let added = one_added c.args.called.now.at.«module» c.listed-term-items.result.now c.args.arguments.now c.args.words.now.items c.loop-term.term-index c.loop-term.taken
      c.loop-term.words.items c.loop-term.invariant c.term-item.result c.loop-term-test.true c.term-item.is w.in-Some.parameter.kind _ w.in-Some.ensures w.in-Some-get.argument.now
      w.in-Some-get.ensures.lookup.3.0 w.in-Some-get.ensures.lookup.1 w.add_argument.new.words.items w.in_ok-add_argument.ensures in
      subst (λ k. AreAdded c.args.called.now.at.«module» c.listed-term-items.result.now c.args.arguments.now c.args.words.now.items (c.loop-term.term-index + 1) k c.match-parameter.words.items)
      (sym w.taken-is)
      (subst (λ (v : Vec PlacedWord Global). AreAdded c.args.called.now.at.«module» c.listed-term-items.result.now c.args.arguments.now c.args.words.now.items (c.loop-term.term-index + 1)
      (c.loop-term.taken + 1) v.items) (sym w.words-is) added)
  | in_default w ↦
      let over = passed_over c.args.called.now.at.«module» c.listed-term-items.result.now c.args.arguments.now c.args.words.now.items c.loop-term.term-index c.loop-term.taken
      c.loop-term.words.items c.loop-term.invariant c.term-item.result c.loop-term-test.true c.term-item.is w.in_default.ensures in
      subst (λ k. AreAdded c.args.called.now.at.«module» c.listed-term-items.result.now c.args.arguments.now c.args.words.now.items (c.loop-term.term-index + 1) k c.match-parameter.words.items)
      (sym w.taken-is)
      (subst (λ (v : Vec PlacedWord Global). AreAdded c.args.called.now.at.«module» c.listed-term-items.result.now c.args.arguments.now c.args.words.now.items (c.loop-term.term-index + 1)
      c.loop-term.taken v.items) (sym w.words-is) over)
]
