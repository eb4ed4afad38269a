use Rattle.std.proofs.Common.{◌∙◌, List, ap, subst, sym}
use Rattle.cil_syntax.specs.declared.program.Statement.{Statement}
use Rattle.cil_syntax.specs.Program.{IsNested, program_of}
use Rattle.cil_syntax.specs.Written.{Written}
use Rattle.cil_blocks.specs.Contents.{is_optional}
use Rattle.cil_blocks.specs.Entries.{statement_at}
use Rattle.cil_macros.specs.Walks.{placed_in, written_in}
use Rattle.cil_macros.proofs.CallLemmas.{stated_by}
use Rattle.cil_macros.proofs.NestingLemmas.{never_unknown, optional_rank, other_rank}
use Rattle.cil_macros.proofs.RoundLemmas.{number_is_place}
use Rattle.cil_macros.proofs.nesting.next_number.Goals as goal

pub returns-then-is_optional_at-clause-value : goal.returns-then-is_optional_at-clause-value
returns-then-is_optional_at-clause-value c =
    let s = c.args.spaces.now in
    let cs = c.args.brought.now.entries.items in
    let x = c.in-Some.ensures in
    let stated = stated_by s cs c.entries.result.now c.as_slice.result.now c.in-Some.opener c.statement_at-number.result c.entries.ensures.same c.as_slice.ensures.value
    c.statement_at-number.ensures x.opener x.is in
    let optional = ap (λ (w : Written). is_optional w.statement.keyword) stated
    ∙ ap (λ (ss : List Statement). is_optional (statement_at (program_of ss) c.statement_at-number.result).statement.keyword) (sym c.statements.ensures)
    ∙ sym (c.if-is_optional_at.ensures (subst IsNested (sym c.statements.ensures) c.requires.standings.contents.nested)) in
    optional_rank (placed_in s cs) c.args.at c.args.numbers.now c.requires.before (written_in s) c.in-Some.opener x
    (number_is_place s c.requires.standings (placed_in s cs) c.requires.placed c.in-Some.opener x.opener x.is) optional

pub returns-in-None-clause-value : goal.returns-in-None-clause-value
returns-in-None-clause-value c =
    absurd (never_unknown (placed_in c.args.spaces.now c.args.brought.now.entries.items) c.args.at c.args.numbers.now c.requires.before (written_in c.args.spaces.now) c.in-Some.opener c.in-Some.ensures
    (sym c.in-None.ensures))

pub returns-in-Some-get-clause-value : goal.returns-in-Some-get-clause-value
returns-in-Some-get-clause-value c =
    let s = c.args.spaces.now in
    let cs = c.args.brought.now.entries.items in
    let x = c.in-Some.ensures in
    let stated = stated_by s cs c.entries.result.now c.as_slice.result.now c.in-Some.opener c.statement_at-number.result c.entries.ensures.same c.as_slice.ensures.value
    c.statement_at-number.ensures x.opener x.is in
    let other = ap (λ (w : Written). is_optional w.statement.keyword) stated
    ∙ ap (λ (ss : List Statement). is_optional (statement_at (program_of ss) c.statement_at-number.result).statement.keyword) (sym c.statements.ensures)
    ∙ sym (c.if-is_optional_at.ensures (subst IsNested (sym c.statements.ensures) c.requires.standings.contents.nested)) in
    other_rank (placed_in s cs) c.args.at c.args.numbers.now c.requires.before (written_in s) c.in-Some.opener x c.in-Some-get.number (sym c.in-Some-get.ensures) other
