use Rattle.std.proofs.Common.{◌∙◌, subst, sym}
use Rattle.cil_macros.specs.Macros.{SaysMacro}
use Rattle.cil_macros.proofs.macros.Macros.get.Goals as goal

pub returns : goal.returns
returns c = λ s are within. subst (SaysMacro s c.args.space c.args.name.now) (sym (c.copied.ensures ∙ c.get.ensures.value)) (are.meant (c.args.space, c.args.name) within)
