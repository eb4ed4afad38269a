use Rattle.cil_syntax.specs.declared.kind.Language.TheVariants as languages
use Rattle.cil_syntax.proofs.Languages.{with_levels, without_levels}
use Rattle.cil_syntax.proofs.kind.Language.heads.Goals as goal

pub returns-in-Constraints : goal.returns-in-Constraints
returns-in-Constraints c = rw c.in-Constraints.is (without_levels _ (c.constraint_heads.ensures languages.Constraints))

pub returns-in-LevelConstraints : goal.returns-in-LevelConstraints
returns-in-LevelConstraints c = rw c.in-LevelConstraints.is (with_levels _ (c.constraint_heads-in-LevelConstraints.ensures languages.LevelConstraints))
