use Rattle.std.proofs.Common.{rules, sym, ◌∙◌, ap}
use Rattle.std.specs.Prelude.{slice_get}
use Rattle.cil_base.specs.Places.{not_there, there_as}
use Rattle.cil_blocks.specs.Entries.{statement_at}
use Rattle.cil_macros.specs.Parameters.{macro_parameters}
use Rattle.cil_macros.proofs.MeaningLemmas.{for_missing, for_none, for_one}
use Rattle.cil_macros.proofs.meaning.argument_for.Goals as goal

pub returns-in_err-number : goal.returns-in_err-number
returns-in_err-number c = λ ws ps bs named macro are.
    let none = for_none ps c.args.word.now (macro_parameters (statement_at ws c.args.called).statement.args) bs c.args.opening.now.arguments.items are (c.in_err-number.ensures ws named macro) in
    search (rules, none)

pub returns-in_err-argument : goal.returns-in_err-argument
returns-in_err-argument c = λ ws ps bs named macro are.
    absurd (for_missing ps c.args.word.now (macro_parameters (statement_at ws c.args.called).statement.args) bs c.args.opening.now.arguments.items are c.in_ok-number.number
    (c.in_ok-number.ensures ws named macro)
    (ap (λ xs. slice_get xs c.in_ok-number.number) (sym c.deref.ensures.value) ∙ not_there c.deref.result.now c.in_ok-number.number c.in_err-argument.ensures.lookup.3))

pub returns : goal.returns
returns c = λ ws ps bs named macro are.
    let m = c.in_ok-argument.argument.now in
    for_one ps c.args.word.now (macro_parameters (statement_at ws c.args.called).statement.args) bs c.args.opening.now.arguments.items are c.in_ok-number.number m
    (c.in_ok-number.ensures ws named macro)
    (ap (λ xs. slice_get xs c.in_ok-number.number) (sym c.deref.ensures.value)
    ∙ there_as c.deref.result.now c.in_ok-number.number m c.in_ok-argument.ensures.lookup.3.0 c.in_ok-argument.ensures.lookup.1)
