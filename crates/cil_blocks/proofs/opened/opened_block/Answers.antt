use Rattle.std.proofs.Common.{arith, length, subst, sym, ◌∙◌}
use Rattle.cil_blocks.specs.Entries.{AreBelow, parts_at}
use Rattle.cil_syntax.specs.Program.{program_of}
use Rattle.cil_blocks.proofs.OpenedLemmas.{marked_by, says_itself, says_marked}
use Rattle.cil_blocks.proofs.ProgramLemmas.{program_length}
use Rattle.cil_blocks.proofs.opened.opened_block.Goals as goal

pub returns-then-has_mark : goal.returns-then-has_mark
returns-then-has_mark c =
    let l = program_length c.args.statements.now in
    let h = c.requires.within in
    says_marked (program_of c.args.statements.now) c.args.number
    (sym c.if-has_mark.true ∙ marked_by (program_of c.args.statements.now) c.args.parts.now c.args.number c.has_mark.result c.parts_at.result.now c.requires.parts
    (omega (arith, l, h)) c.parts_at.ensures c.has_mark.ensures)

pub returns-else-has_mark : goal.returns-else-has_mark
returns-else-has_mark c =
    let l = program_length c.args.statements.now in
    let h = c.requires.within in
    says_itself (program_of c.args.statements.now) c.args.number (omega (arith, l, h))
    (sym c.if-has_mark.false ∙ marked_by (program_of c.args.statements.now) c.args.parts.now c.args.number c.has_mark.result c.parts_at.result.now c.requires.parts
    (omega (arith, l, h)) c.parts_at.ensures c.has_mark.ensures)

pub has_mark-requires-clause-within : goal.has_mark-requires-clause-within
has_mark-requires-clause-within c =
    subst (λ ks. AreBelow (length c.args.statements.now) ks) (sym c.parts_at.ensures)
    (subst (λ n. AreBelow n (parts_at c.args.parts.now c.args.number)) (program_length c.args.statements.now) (c.requires.parts.are_numbers c.args.number))
