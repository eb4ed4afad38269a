use Rattle.std.proofs.Common.{◌∙◌, rules}
use Rattle.cil_blocks.specs.Entries.{statement_at}
use Rattle.cil_macros.specs.Parameters.{macro_parameters}
use Rattle.cil_macros.proofs.ServingLemmas.{found, none_found}
use Rattle.cil_macros.proofs.parameters.Parameters.number_for.Goals as goal

pub returns-in_err-place : goal.returns-in_err-place
returns-in_err-place c = λ ws are macro.
    let none = none_found c.args.word.now c.in_err-place.ensures (macro_parameters (statement_at ws c.args.called).statement.args) in
    search (rules, none)

pub returns : goal.returns
returns c = λ ws are macro.
    c.copied.ensures ∙ c.get.ensures.value
    ∙ are (c.args.called, c.in_ok-place.place, c.as_slice.result) macro
    ∙ found c.args.word.now c.args.called c.in_ok-place.place c.as_slice.result c.in_ok-place.ensures c.as_slice.ensures (macro_parameters (statement_at ws c.args.called).statement.args)
