use Rattle.std.proofs.Common.{take}
use Rattle.cil_blocks.specs.Seeds.{IsJoined}
use Rattle.cil_blocks.proofs.seeds.insert_pairs.Given as goal

abbrev pub invariant-loop-pair : goal.invariant-loop-pair
invariant-loop-pair l = IsJoined (take l.pair-index l.more) l.fn.pairs.keys l.pairs.keys
