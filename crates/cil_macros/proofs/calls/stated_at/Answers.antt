use Rattle.std.proofs.Common.{◌∙◌, ap, sym}
use Rattle.std.specs.Prelude.{slice_get}
use Rattle.cil_base.specs.Places.{not_there, there_as}
use Rattle.cil_syntax.specs.Written.{Written}
use Rattle.cil_blocks.specs.Places.{statements_in}
use Rattle.cil_blocks.proofs.NameLemmas.{at_none, at_some}
use Rattle.cil_macros.proofs.CallLemmas.{stated_by}
use Rattle.cil_macros.proofs.calls.stated_at.Goals as goal

pub returns-in_default : goal.returns-in_default
returns-in_default c = λ p here.
    let s = c.args.spaces.now in
    let n = c.statement_at-number.result in
    stated_by s c.args.brought.now.entries.items c.entries.result.now c.as_slice.result.now c.args.at n c.entries.ensures.same c.as_slice.ensures.value c.statement_at-number.ensures p here
    ∙ at_none (statements_in s) c.requires.standings.contents.nested n
    (ap (λ ys. slice_get ys n) (sym c.statements.ensures) ∙ not_there c.statements.result.now n c.in_default.ensures.lookup.3)

pub returns : goal.returns
returns c = λ p here.
    let s = c.args.spaces.now in
    let n = c.statement_at-number.result in
    let x = c.in-Some.statement.now in
    ap (λ (w : Written). w.statement)
    (stated_by s c.args.brought.now.entries.items c.entries.result.now c.as_slice.result.now c.args.at n c.entries.ensures.same c.as_slice.ensures.value c.statement_at-number.ensures p here
    ∙ at_some (statements_in s) c.requires.standings.contents.nested n x
    (ap (λ ys. slice_get ys n) (sym c.statements.ensures) ∙ there_as c.statements.result.now n x c.in-Some.ensures.lookup.3.0 c.in-Some.ensures.lookup.1))
