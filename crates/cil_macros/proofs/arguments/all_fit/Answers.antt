use Rattle.std.proofs.Common.{◌+◌, ◌∙◌, arith, drop, sym}
use Rattle.cil_syntax.specs.Said.{all_said}
use Rattle.cil_macros.proofs.ArgumentLemmas.{here_left, none_left}
use Rattle.cil_macros.proofs.arguments.all_fit.Goals as goal

pub returns-in_default : goal.returns-in_default
returns-in_default c =
    λ n.
    sym (here_left c.args.«module» n c.args.parameters.now c.args.arguments.now c.loop-parameter.parameter-index c.loop-parameter.taken c.parameter-item.result
    c.loop-parameter-test.true c.parameter-item.is (c.loop-parameter.invariant n)
    ∙ c.in_default.ensures n (all_said c.args.«module» (drop (c.loop-parameter.parameter-index + 1) c.args.parameters.now)))

pub loop-parameter-preserved : goal.loop-parameter-preserved
loop-parameter-preserved c =
    λ n.
    here_left c.args.«module» n c.args.parameters.now c.args.arguments.now c.loop-parameter.parameter-index c.loop-parameter.taken c.parameter-item.result
    c.loop-parameter-test.true c.parameter-item.is (c.loop-parameter.invariant n)
    ∙ c.in-Some.ensures n (all_said c.args.«module» (drop (c.loop-parameter.parameter-index + 1) c.args.parameters.now))

pub returns : goal.returns
returns c =
    λ n.
    let over = c.loop-parameter-test.false in
    sym (none_left c.args.«module» n c.args.parameters.now c.args.arguments.now c.loop-parameter.parameter-index c.loop-parameter.taken (omega (arith, over)) (c.loop-parameter.invariant n))
