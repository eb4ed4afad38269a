use Rattle.std.specs.Prelude.{All, take}
use Rattle.cil_mls.specs.Values.{IsFew}
use Rattle.cil_levels.specs.Made.{AreMade}
use Rattle.cil_levels.proofs.making.made.Given as goal

abbrev pub invariant-loop-definition : goal.invariant-loop-definition
invariant-loop-definition l = AreMade l.known l.instances l.count l.initial.helds.items (take l.definition-index l.definitions) l.helds.items × All IsFew l.helds.items
