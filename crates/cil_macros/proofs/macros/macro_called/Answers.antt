use Rattle.std.proofs.Common.{rules, sym, ◌≡◌, ◌∙◌, ap, subst}
use Rattle.std.specs.Prelude.{Some, None, slice_get}
use Rattle.cil_base.specs.Places.{not_there, there_as}
use Rattle.cil_syntax.specs.Said.{all_said}
use Rattle.cil_syntax.specs.Written.{Written}
use Rattle.cil_blocks.specs.Contents.{first_word}
use Rattle.cil_blocks.specs.Places.{statements_in}
use Rattle.cil_blocks.proofs.NameLemmas.{args_some, at_none, keyword_some}
use Rattle.cil_blocks.proofs.TargetsSo.{no_word, some_word}
use Rattle.cil_macros.specs.Calls.{is_call, macro_in_scope}
use Rattle.cil_macros.specs.Macros.{SaysOf, all_standing}
use Rattle.cil_macros.proofs.MacroLemmas.{a_call, no_call}
use Rattle.cil_macros.proofs.macros.macro_called.Goals as goal

pub returns-in_err-statement : goal.returns-in_err-statement
returns-in_err-statement c = λ p is scope.
    let nested = c.requires.macros.standings.contents.nested in
    let gone : slice_get (statements_in c.args.spaces.now) c.args.number ≡ None =
    ap (λ xs. slice_get xs c.args.number) (sym c.statements.ensures) ∙ not_there c.statements.result.now c.args.number c.in_err-statement.ensures.lookup.3 in
    let none = no_call (all_standing c.args.spaces.now) p
    (ap (λ (w : Written). is_call w.statement.keyword) (is ∙ at_none (statements_in c.args.spaces.now) nested c.args.number gone)) in
    search (rules, none)

pub returns-then-not-is_call : goal.returns-then-not-is_call
returns-then-not-is_call c = λ p is scope.
    let nested = c.requires.macros.standings.contents.nested in
    let there = ap (λ xs. slice_get xs c.args.number) (sym c.statements.ensures)
    ∙ there_as c.statements.result.now c.args.number c.in_ok-statement.statement.now c.in_ok-statement.ensures.lookup.3.0 c.in_ok-statement.ensures.lookup.1 in
    no_call (all_standing c.args.spaces.now) p
    (ap (λ (w : Written). is_call w.statement.keyword) is
    ∙ ap is_call (keyword_some (statements_in c.args.spaces.now) nested c.args.number c.in_ok-statement.statement.now there)
    ∙ sym c.if-not-is_call.ensures)

pub returns-in_err-front : goal.returns-in_err-front
returns-in_err-front c = λ p is scope.
    let nested = c.requires.macros.standings.contents.nested in
    let there = ap (λ xs. slice_get xs c.args.number) (sym c.statements.ensures)
    ∙ there_as c.statements.result.now c.args.number c.in_ok-statement.statement.now c.in_ok-statement.ensures.lookup.3.0 c.in_ok-statement.ensures.lookup.1 in
    let none = a_call (all_standing c.args.spaces.now) p None
    (ap (λ (w : Written). is_call w.statement.keyword) is
    ∙ ap is_call (keyword_some (statements_in c.args.spaces.now) nested c.args.number c.in_ok-statement.statement.now there)
    ∙ sym c.if-not-is_call.ensures)
    (ap (λ (w : Written). first_word w.statement.args) is
    ∙ ap first_word (args_some (statements_in c.args.spaces.now) nested c.args.number c.in_ok-statement.statement.now there)
    ∙ ap (λ ts. first_word (all_said c.in_ok-statement.statement.now.at.«module» ts)) (sym c.as_slice.ensures.value)
    ∙ no_word (all_said c.in_ok-statement.statement.now.at.«module» c.as_slice.result.now) c.in_err-front.ensures) in
    search (rules, none)

pub returns : goal.returns
returns c = λ p is scope.
    let nested = c.requires.macros.standings.contents.nested in
    let there = ap (λ xs. slice_get xs c.args.number) (sym c.statements.ensures)
    ∙ there_as c.statements.result.now c.args.number c.in_ok-statement.statement.now c.in_ok-statement.ensures.lookup.3.0 c.in_ok-statement.ensures.lookup.1 in
    let same = a_call (all_standing c.args.spaces.now) p (Some c.in_ok-front.front.word)
    (ap (λ (w : Written). is_call w.statement.keyword) is
    ∙ ap is_call (keyword_some (statements_in c.args.spaces.now) nested c.args.number c.in_ok-statement.statement.now there)
    ∙ sym c.if-not-is_call.ensures)
    (ap (λ (w : Written). first_word w.statement.args) is
    ∙ ap first_word (args_some (statements_in c.args.spaces.now) nested c.args.number c.in_ok-statement.statement.now there)
    ∙ ap (λ ts. first_word (all_said c.in_ok-statement.statement.now.at.«module» ts)) (sym c.as_slice.ensures.value)
    ∙ some_word (all_said c.in_ok-statement.statement.now.at.«module» c.as_slice.result.now) _ c.in_ok-front.front.word c.in_ok-front.ensures) in
    subst (λ o. SaysOf (all_standing c.args.spaces.now) o c.macro_named.result)
    (sym (same ∙ ap (macro_in_scope (all_standing c.args.spaces.now) c.in_ok-front.front.word) (sym scope)))
    c.macro_named.ensures
