use Rattle.cil_faults.proofs.RefusalLemmas.{refused}
use Rattle.cil_macros.specs.ExpandFaults.{ExpandStep}
use Rattle.cil_macros.specs.Expansion.{AreOpened}
use Rattle.cil_macros.specs.Macros.{all_standing}
use Rattle.cil_macros.specs.Walks.{written_in}
use Rattle.cil_macros.proofs.expansion.opened_by.Goals as goal

pub returns-in_err-macros : goal.returns-in_err-macros
returns-in_err-macros c =
    let s = c.args.spaces.now in
    refused (AreOpened s) (ExpandStep (written_in s) (all_standing s)) c.from_residual.result _ c.from_residual.ensures.1 tt

pub returns-in_err-parts : goal.returns-in_err-parts
returns-in_err-parts c =
    let s = c.args.spaces.now in
    refused (AreOpened s) (ExpandStep (written_in s) (all_standing s)) c.from_residual-in_err-parts.result _ c.from_residual-in_err-parts.ensures.1 tt

pub returns : goal.returns
returns c = c.opened_from.ensures
