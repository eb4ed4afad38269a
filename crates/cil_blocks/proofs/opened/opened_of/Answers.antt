use Rattle.std.proofs.Common.{arith}
use Rattle.cil_syntax.specs.Program.{program_of}
use Rattle.cil_blocks.proofs.OpenedLemmas.{all_opened, one_more}
use Rattle.cil_blocks.proofs.ProgramLemmas.{program_length}
use Rattle.cil_blocks.proofs.opened.opened_of.Goals as goal

pub loop-number-preserved : goal.loop-number-preserved
loop-number-preserved c =
    λ one. one_more (program_of c.args.statements.now) c.loop-number.number c.loop-number.opened.items c.push.new.self.items c.opened_at.result
    (c.loop-number.invariant one) c.in_ok-push.ensures.items (c.opened_at.ensures one)

pub returns : goal.returns
returns c =
    let l = program_length c.args.statements.now in
    let h = c.loop-number-test.false in
    λ one. all_opened (program_of c.args.statements.now) c.loop-number.number c.loop-number.opened.items (omega (arith, l, h)) (c.loop-number.invariant one)
