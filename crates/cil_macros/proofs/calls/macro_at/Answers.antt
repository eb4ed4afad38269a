use Rattle.std.proofs.Common.{◌∙◌, List, ap, map, subst, sym}
use Rattle.cil_syntax.specs.declared.program.Statement.{Statement}
use Rattle.cil_syntax.specs.Program.{program_of}
use Rattle.cil_syntax.specs.Written.{Written}
use Rattle.cil_blocks.specs.Entries.{statement_at}
use Rattle.cil_blocks.specs.Namespaces.{space_at}
use Rattle.cil_blocks.specs.Numbers.{AreWithin}
use Rattle.cil_blocks.specs.Places.{spaces_in}
use Rattle.cil_macros.specs.Calls.{is_call}
use Rattle.cil_macros.specs.Macros.{all_standing}
use Rattle.cil_macros.proofs.CallLemmas.{placed_there, stated_by}
use Rattle.cil_macros.proofs.MacroLemmas.{no_call}
use Rattle.cil_macros.proofs.calls.macro_at.Goals as goal

pub returns-then-not-is_call_at-clause-meant : goal.returns-then-not-is_call_at-clause-meant
returns-then-not-is_call_at-clause-meant c = λ p e.
    let s = c.args.source.now.spaces.now in
    no_call (all_standing s) p
    (ap (λ (w : Written). is_call w.statement.keyword) (stated_by s c.args.brought.now.entries.items c.entries.result.now c.as_slice.result.now c.args.at c.statement_at-number.result
    c.entries.ensures.same c.as_slice.ensures.value c.statement_at-number.ensures p e)
    ∙ ap (λ (ss : List Statement). is_call (statement_at (program_of ss) c.statement_at-number.result).statement.keyword) (sym c.statements.ensures)
    ∙ sym c.if-not-is_call_at.ensures)

pub macro_called-called-requires-clause-within : goal.macro_called-called-requires-clause-within
macro_called-called-requires-clause-within c =
    let s = c.args.source.now.spaces.now in
    let p = placed_there s c.args.brought.now.entries.items c.args.at c.requires.within in
    subst (AreWithin (spaces_in s)) (sym c.as_slice-2.ensures) (c.in_ok-scope_at.ensures p.0 p.1).within

pub returns-clause-meant : goal.returns-clause-meant
returns-clause-meant c = λ p e.
    let s = c.args.source.now.spaces.now in
    c.macro_called-called.ensures p (stated_by s c.args.brought.now.entries.items c.entries.result.now c.as_slice.result.now c.args.at c.statement_at-number.result
    c.entries.ensures.same c.as_slice.ensures.value c.statement_at-number.ensures p e)
    (ap (map (space_at (spaces_in s))) c.as_slice-2.ensures ∙ (c.in_ok-scope_at.ensures p e).is)
