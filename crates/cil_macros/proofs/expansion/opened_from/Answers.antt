use Rattle.cil_faults.proofs.RefusalLemmas.{refused}
use Rattle.cil_blocks.proofs.InheritLemmas.{is_none, is_some}
use Rattle.cil_macros.specs.ExpandFaults.{ExpandStep}
use Rattle.cil_macros.specs.Expansion.{AreOpened}
use Rattle.cil_macros.specs.Macros.{all_standing}
use Rattle.cil_macros.specs.Walks.{written_in}
use Rattle.cil_macros.proofs.ExpandLemmas.{over_so}
use Rattle.cil_macros.proofs.expansion.opened_from.Goals as goal

pub returns-in_err-brought : goal.returns-in_err-brought
returns-in_err-brought c =
    let s = c.args.source.now.spaces.now in
    refused (AreOpened s) (ExpandStep (written_in s) (all_standing s)) c.from_residual.result _ c.from_residual.ensures.1 tt

pub returns-in_default : goal.returns-in_default
returns-in_default c =
    let s = c.args.source.now.spaces.now in
    over_so (written_in s) (all_standing s) c.in_ok-over_the_limit.field-0 (is_none _ c.in_ok-brought.field-0 c.in_default.is c.in_ok-brought.ensures.many) c.in_ok-over_the_limit.ensures

pub opened_with-requires-clause-all : goal.opened_with-requires-clause-all
opened_with-requires-clause-all c =
    record {
      brought = is_some _ c.in_ok-brought.field-0 c.in-Some.brought c.in-Some.is c.in_ok-brought.ensures.brought;
      turn = is_some _ c.in_ok-brought.field-0 c.in-Some.brought c.in-Some.is c.in_ok-brought.ensures.turn;
      all = is_some _ c.in_ok-brought.field-0 c.in-Some.brought c.in-Some.is c.in_ok-brought.ensures.all;
      few = is_some _ c.in_ok-brought.field-0 c.in-Some.brought c.in-Some.is c.in_ok-brought.ensures.few;
    }

pub returns : goal.returns
returns c = c.opened_with.ensures
