use Rattle.std.proofs.Common.{arith, ap, subst}
use Rattle.cil_syntax.specs.Program.{program_of}
use Rattle.cil_blocks.specs.Contents.{is_block}
use Rattle.cil_base.specs.Places.{there_as}
use Rattle.cil_blocks.proofs.NameLemmas.{keyword_some}
use Rattle.cil_blocks.proofs.TargetLemmas.{AreBlocksUpTo, block_more}
use Rattle.cil_blocks.proofs.targets.block_numbers.Goals as goal

pub loop-i-preserved : goal.loop-i-preserved
loop-i-preserved c =
    block_more (program_of c.args.statements.now) c.loop-i.i (is_block c.index-statements-i.result.keyword) c.loop-i.blocks.items _
    (ap is_block (keyword_some c.args.statements.now c.requires c.loop-i.i c.index-statements-i.result
    (there_as c.args.statements.now c.loop-i.i c.index-statements-i.result c.loop-i-test.true c.index-statements-i.is)))
    c.loop-i.invariant c.in_ok-push_block.ensures

pub returns : goal.returns
returns c =
    let h = c.loop-i-test.false in
    let e = c.loop-i.auto.i-end in
    subst (λ n. AreBlocksUpTo (program_of c.args.statements.now) n c.loop-i.blocks.items) (omega (arith, h, e)) c.loop-i.invariant
