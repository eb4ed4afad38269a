use Rattle.cil_syntax.proofs.Languages.{the_parts}
use Rattle.cil_syntax.proofs.kind.Language.levels_compared.Goals as goal

pub returns-in-LevelConstraints : goal.returns-in-LevelConstraints
returns-in-LevelConstraints c = rw c.in-LevelConstraints.is (simp the_parts)
