use Rattle.std.proofs.Common.{get_or, refl}
use Rattle.cil_syntax.specs.Program.{program_of}
use Rattle.cil_blocks.specs.Seeds.{own_name}
use Rattle.cil_blocks.proofs.SeedLists.{all_paired, one_paired}
use Rattle.cil_blocks.proofs.seeds.pairs_among.Goals as goal

pub loop-number-preserved : goal.loop-number-preserved
loop-number-preserved c =
    one_paired (own_name (program_of c.args.statements.now)) c.args.others.now c.args.ones.now c.loop-number.number-index (get_or c.args.ones.now c.loop-number.number-index 0) 0
    c.alike_in.result.now c.loop-number.pairs.items _ c.loop-number-test.true refl c.alike_in.ensures c.loop-number.invariant c.in_ok-push_pairs.ensures

pub returns : goal.returns
returns c =
    all_paired (own_name (program_of c.args.statements.now)) c.args.others.now c.args.ones.now c.loop-number.number-index c.loop-number.pairs.items c.loop-number-test.false
    c.loop-number.invariant
