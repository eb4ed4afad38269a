use Rattle.std.proofs.Common.{◌∙◌, ap, sym}
use Rattle.cil_syntax.specs.Said.{args_of}
use Rattle.cil_macros.specs.Fits.{fits}
use Rattle.cil_macros.specs.Parameters.{call_arguments, parameters_in}
use Rattle.cil_macros.proofs.ArgumentLemmas.{parameters_listed}
use Rattle.cil_macros.proofs.arguments.arguments_fit.Goals as goal

pub returns : goal.returns
returns c =
    c.all_fit.ensures c.args.call.now.at.«module»
    ∙ (λ i. fits (parameters_in (c.listed.ensures i)) (c.listed-2.ensures i))
    ∙ ap (λ xs. fits xs (call_arguments (args_of c.args.call.now))) (sym (parameters_listed (args_of c.args.called.now)))
