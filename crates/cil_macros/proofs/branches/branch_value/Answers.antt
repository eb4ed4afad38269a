use Rattle.std.proofs.Common.{◌∙◌, ap, arith}
use Rattle.cil_syntax.specs.Said.{all_said}
use Rattle.cil_blocks.specs.Branches.{branch_value}
use Rattle.cil_macros.proofs.BranchValues.{all_behind, one_behind}
use Rattle.cil_macros.proofs.branches.branch_value.Goals as goal

pub loop-term-preserved : goal.loop-term-preserved
loop-term-preserved c =
    one_behind c.args.statement.now.at.«module» c.loop-term.term-index _ c.term-item.result c.args.at c.loop-term.value _ _ c.loop-term-test.true c.term-item.is c.value_behind-value.ensures
    c.loop-term.invariant

pub returns : goal.returns
returns c =
    let over = c.loop-term-test.false in
    all_behind c.args.statement.now.at.«module» c.loop-term.term-index c.as_slice-term-items.result.now c.args.at c.loop-term.value _ (omega (arith, over)) c.loop-term.invariant
    ∙ ap (λ xs. branch_value (all_said c.args.statement.now.at.«module» xs) c.args.at) c.as_slice-term-items.ensures.value
