use Rattle.cil_syntax.proofs.Languages.{the_parts}
use Rattle.cil_syntax.proofs.language.constraint_heads.Goals as goal

pub returns : goal.returns
returns c = λ language. simp the_parts
