use Rattle.std.proofs.Common.{arith}
use Rattle.cil_syntax.specs.Program.{program_of}
use Rattle.cil_blocks.proofs.AllTargets.{all_targets, targets_more}
use Rattle.cil_blocks.proofs.ProgramLemmas.{program_length}
use Rattle.cil_blocks.proofs.targets.targets_of.Goals as goal

pub loop-number-preserved : goal.loop-number-preserved
loop-number-preserved c =
    targets_more (program_of c.args.statements.now) c.loop-number.number c.loop-number.lists.items c.push.new.self.items c.targets_kept.result
    c.loop-number.invariant c.in_ok-push.ensures.items c.targets_kept.ensures

pub returns : goal.returns
returns c =
    let l = program_length c.args.statements.now in
    let h = c.loop-number-test.false in
    let e = c.loop-number.auto in
    all_targets (program_of c.args.statements.now) c.loop-number.number _ (omega (arith, l, h, e)) c.loop-number.invariant
