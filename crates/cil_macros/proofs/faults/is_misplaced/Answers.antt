use Rattle.std.proofs.Common.{◌&&◌, ◌∙◌, List, ap, sym}
use Rattle.cil_syntax.specs.declared.program.Statement.{Statement}
use Rattle.cil_syntax.specs.Program.{program_of}
use Rattle.cil_blocks.specs.Entries.{statement_at}
use Rattle.cil_macros.specs.CallPlaces.{is_call_in_branch}
use Rattle.cil_macros.proofs.CallLemmas.{stated_by}
use Rattle.cil_macros.proofs.faults.is_misplaced.Goals as goal

pub returns-then-has_mark : goal.returns-then-has_mark
returns-then-has_mark c = λ p e.
    let s = c.args.spaces.now in
    c.is_call_in_branch.ensures
    ∙ ap (λ (ss : List Statement). is_call_in_branch (statement_at (program_of ss) c.statement_at-number.result)) c.statements.ensures
    ∙ sym (ap is_call_in_branch (stated_by s c.args.brought.now.entries.items c.entries.result.now c.as_slice.result.now c.args.at c.statement_at-number.result
    c.entries.ensures.same c.as_slice.ensures.value c.statement_at-number.ensures p e))
    ∙ ap (λ b. b && is_call_in_branch p.standing.statement) c.if-has_mark.ensures
