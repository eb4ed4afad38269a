use Rattle.std.proofs.Common.{◌≡◌, take}
use Rattle.std.specs.List.{flat_map}
use Rattle.cil_blocks.specs.Seeds.{body_parts}
use Rattle.cil_blocks.proofs.reach.all_in.Given as goal

abbrev pub invariant-loop-body : goal.invariant-loop-body
invariant-loop-body l = l.all.items ≡ flat_map (body_parts l.parts) (take l.body-index l.bodies)
