use Rattle.std.proofs.Common.{◌&&◌, ◌+◌, ◌∙◌, ap, drop}
use Rattle.cil_syntax.specs.Said.{all_said}
use Rattle.cil_macros.specs.Fits.{fits}
use Rattle.cil_macros.specs.Parameters.{parameters_in}
use Rattle.cil_macros.proofs.ArgumentLemmas.{argument_judged}
use Rattle.cil_macros.proofs.arguments.behind_fitting.Goals as goal

pub returns-then-not-is_of_kind : goal.returns-then-not-is_of_kind
returns-then-not-is_of_kind c =
    λ n more.
    argument_judged c.args.«module» n c.args.parameter.now more c.in-Some.found.kind _ c.in-Some.ensures c.args.arguments.now c.args.taken c.in_ok-argument.argument.now
    c.is_of_kind.result c.in_ok-argument.ensures.lookup.3.0 c.in_ok-argument.ensures.lookup.1 (c.is_of_kind.ensures n)
    ∙ ap (λ b. b && fits (parameters_in more) (all_said n (drop (c.args.taken + 1) c.args.arguments.now))) c.if-not-is_of_kind.true

pub returns : goal.returns
returns c =
    λ n more.
    argument_judged c.args.«module» n c.args.parameter.now more c.in-Some.found.kind _ c.in-Some.ensures c.args.arguments.now c.args.taken c.in_ok-argument.argument.now
    c.is_of_kind.result c.in_ok-argument.ensures.lookup.3.0 c.in_ok-argument.ensures.lookup.1 (c.is_of_kind.ensures n)
    ∙ ap (λ b. b && fits (parameters_in more) (all_said n (drop (c.args.taken + 1) c.args.arguments.now))) c.if-not-is_of_kind.false
