use Rattle.std.proofs.Common.{arith}
use Rattle.cil_syntax.specs.Program.{program_of}
use Rattle.cil_blocks.specs.Reports.{IsUnresolved}
use Rattle.cil_blocks.proofs.InheritLemmas.{one_numbered, to_length}
use Rattle.cil_blocks.proofs.ProgramLemmas.{program_length}
use Rattle.cil_blocks.proofs.inheritance.unresolved_of.Goals as goal

pub loop-number-preserved : goal.loop-number-preserved
loop-number-preserved c =
    one_numbered (program_of c.args.statements.now) (IsUnresolved (program_of c.args.statements.now)) c.loop-number.number c.is_unresolved-unresolved.result
    c.loop-number.numbers.items _ c.is_unresolved-unresolved.ensures c.loop-number.invariant c.in_ok-push_if.ensures

pub returns : goal.returns
returns c =
    let l = program_length c.args.statements.now in
    let h = c.loop-number-test.false in
    let e = c.loop-number.auto in
    to_length (program_of c.args.statements.now) (IsUnresolved (program_of c.args.statements.now)) c.loop-number.number _ (omega (arith, l, h, e)) c.loop-number.invariant
