use Rattle.std.proofs.Common.{take}
use Rattle.cil_blocks.specs.Seeds.{IsJoined}
use Rattle.cil_blocks.proofs.reach.insert_bodies.Given as goal

abbrev pub invariant-loop-body : goal.invariant-loop-body
invariant-loop-body l = IsJoined (take l.body-index l.more) l.fn.reached.keys l.reached.keys
