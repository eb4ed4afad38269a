use Rattle.std.proofs.Common.{arith, sym, ◌∙◌}
use Rattle.cil_syntax.specs.Program.{program_of}
use Rattle.cil_blocks.proofs.MemberLemmas.{block_below}
use Rattle.cil_blocks.proofs.ProgramLemmas.{program_length}
use Rattle.cil_blocks.proofs.reach.is_open.Goals as goal

pub opened_block-requires-clause-within : goal.opened_block-requires-clause-within
opened_block-requires-clause-within c =
    let l = program_length c.args.statements.now in
    let h = block_below (program_of c.args.statements.now) c.args.number (sym (c.is_block_at.ensures c.requires.nested) ∙ c.if-not-is_block_at.false) in
    omega (arith, h, l)
