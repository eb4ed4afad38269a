-- The levels of a policy, and what is wrong with them, by whatever they rest on: a policy has one ground.
use Rattle.std.specs.Prelude.{List}
use Rattle.cil_faults.specs.declared.fault.Fault.{Fault}
use Rattle.cil_macros.specs.Item.{Item, OptSet}
use Rattle.cil_known.specs.declared.known.Known.{Known}
use Rattle.cil_known.specs.Known.{enabled_in}
use Rattle.cil_ranges.specs.declared.levels.Levels.{Levels}
use Rattle.cil_ranges.specs.Levels.{Ground}
use Rattle.cil_ranges.specs.Steps.{AreLevels, IsGround, LevelFault}

-- by the ground of these statements, the fault is one of levels
abbrev pub LevelStep : List Item → OptSet → Fault → Type 0
LevelStep xs s f = (g : Ground) × IsGround xs s g × LevelFault s g f

-- by that ground, these are its levels
abbrev pub AreLevelsOf : Known → List Item → Levels → Type 0
AreLevelsOf k xs l = (g : Ground) × IsGround xs (enabled_in k) g × AreLevels k g l
