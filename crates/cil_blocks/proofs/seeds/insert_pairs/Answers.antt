use Rattle.std.proofs.Common.{refl}
use Rattle.std.specs.Prelude.{None}
use Rattle.cil_blocks.proofs.Reached.{one_joined, pair_eq, same_pair}
use Rattle.cil_blocks.proofs.seeds.insert_pairs.Goals as goal

pub loop-pair-preserved : goal.loop-pair-preserved
loop-pair-preserved c =
    one_joined pair_eq same_pair c.args.more.now c.loop-pair.pair-index _ (None, None) c.args.pairs.now.keys c.loop-pair.pairs.keys _ c.loop-pair-test.true refl
    c.loop-pair.invariant c.in_ok-insert.ensures.keys
