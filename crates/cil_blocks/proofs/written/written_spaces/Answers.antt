use Rattle.std.proofs.Common.{arith, subst}
use Rattle.cil_syntax.specs.Program.{program_of}
use Rattle.cil_blocks.specs.WrittenSpaces.{AreWrittenUpTo}
use Rattle.cil_blocks.proofs.ProgramLemmas.{program_length}
use Rattle.cil_blocks.proofs.WrittenLemmas.{all_written, none_written}
use Rattle.cil_blocks.proofs.written.written_spaces.Goals as goal

pub loop-number-init : goal.loop-number-init
loop-number-init c = none_written (program_of c.args.statements.now) (record { namespaces = c.global.result; numbers = c.new.result }) c.new.ensures

pub returns : goal.returns
returns c =
    let l = program_length c.args.statements.now in
    let h = c.loop-number-test.false in
    let e = c.loop-number.auto in
    all_written (program_of c.args.statements.now) c.loop-number.spaces
    (subst (λ n. AreWrittenUpTo (program_of c.args.statements.now) n c.loop-number.spaces) (omega (arith, l, h, e)) c.loop-number.invariant) c.are_namespaces.ensures
