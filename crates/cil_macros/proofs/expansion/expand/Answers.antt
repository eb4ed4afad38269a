use Rattle.std.proofs.Common.{◌≡◌, List, refl}
use Rattle.cil_blocks.specs.Places.{Standings}
use Rattle.cil_macros.specs.declared.entry.Called.{Called}
use Rattle.cil_macros.specs.ExpandFaults.{ExpandStep}
use Rattle.cil_macros.specs.Macros.{all_standing}
use Rattle.cil_macros.specs.Walks.{written_in}
use Rattle.cil_macros.proofs.expansion.expand.Goals as goal
use Rattle.cil_faults.proofs.RefusalLemmas.{refused}

pub returns-in_err-opened : goal.returns-in_err-opened
returns-in_err-opened c =
    let s = c.args.spaces.now in
    refused (λ (i : Standings × List Called). i.0 ≡ s) (ExpandStep (written_in s) (all_standing s)) c.from_residual.result _ c.from_residual.ensures.1 c.in_err-opened.ensures

pub returns-in_err-innermost : goal.returns-in_err-innermost
returns-in_err-innermost c =
    let s = c.args.spaces.now in
    refused (λ (i : Standings × List Called). i.0 ≡ s) (ExpandStep (written_in s) (all_standing s)) c.from_residual-in_err-innermost.result _ c.from_residual-in_err-innermost.ensures.1 tt

pub invariant_of-result : goal.invariant_of-result
invariant_of-result c = (c.in_ok-opened.ensures.0.0, c.in_ok-opened.ensures.0.1, c.in_ok-innermost.ensures)

pub returns : goal.returns
returns c = (refl, c.in_ok-opened.ensures.1)
