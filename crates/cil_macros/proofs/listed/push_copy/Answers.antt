use Rattle.std.proofs.Common.{[], ◌∷◌, ◌++◌, ◌∙◌, ap}
use Rattle.cil_syntax.proofs.NodesJudged.{on_ok}
use Rattle.cil_macros.specs.declared.listed.Part.{Part}
use Rattle.cil_macros.proofs.listed.push_copy.Goals as goal

pub returns : goal.returns
returns c = on_ok c.push_part.result _ _ (λ e. e ∙ ap (λ (x : Part). c.args.parts.now.items ++ x ∷ []) c.copied.ensures) c.push_part.ensures
