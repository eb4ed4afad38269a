use Rattle.std.proofs.Common.{◌||◌, ◌∙◌, ap, refl}
use Rattle.cil_syntax.specs.Program.{program_of}
use Rattle.cil_macros.specs.Brings.{is_marked, is_other}
use Rattle.cil_macros.proofs.BringsLemmas.{no_step_so, step_so}
use Rattle.cil_macros.proofs.brings.mark.Goals as goal

pub returns-then-not-is_to_mark : goal.returns-then-not-is_to_mark
returns-then-not-is_to_mark c =
    let ws = program_of c.args.statements.now in
    no_step_so ws c.args.called.now c.args.place c.args.marks.now.items c.args.marks.now.items c.is_to_mark.result
    (c.is_to_mark.ensures ∙ ap (λ xs. is_marked xs c.args.place || is_other ws c.args.called.now.statement) c.as_slice.ensures.value) c.if-not-is_to_mark.true refl

pub returns : goal.returns
returns c =
    let ws = program_of c.args.statements.now in
    step_so ws c.args.called.now c.args.place c.args.marks.now.items _ c.is_to_mark.result
    (c.is_to_mark.ensures ∙ ap (λ xs. is_marked xs c.args.place || is_other ws c.args.called.now.statement) c.as_slice.ensures.value) c.if-not-is_to_mark.false
    c.requires.within refl
