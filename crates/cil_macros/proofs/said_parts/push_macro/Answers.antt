use Rattle.std.proofs.Common.{[], ◌∷◌, ◌++◌, ◌∙◌, ap}
use Rattle.cil_blocks.specs.Contents.{first_word}
use Rattle.cil_macros.specs.declared.listed.Part.TheVariants as kept_parts
use Rattle.cil_macros.specs.declared.placed_word.PlacedWord.{PlacedWord}
use Rattle.cil_macros.specs.Scene.{placed_of_scene}
use Rattle.cil_macros.proofs.SaidPartLemmas.{its_macro_part, no_macro_part}
use Rattle.cil_macros.proofs.said_parts.push_macro.Goals as goal

pub returns-in_default : goal.returns-in_default
returns-in_default c = λ p here.
    no_macro_part (placed_of_scene c.args.scene.now) c.args.at p here (first_word p.standing.statement.statement.args) (c.in_default.ensures p here) c.args.parts.now.items

pub returns : goal.returns
returns c = λ p here.
    let front = c.in-Some.ensures p here in
    its_macro_part (placed_of_scene c.args.scene.now) c.args.at p here (first_word p.standing.statement.statement.args) front.word front.first c.args.parts.now.items _
    (c.in_ok-push_part.ensures ∙ ap (λ (w : PlacedWord). c.args.parts.now.items ++ kept_parts.Word w ∷ []) front.is)
