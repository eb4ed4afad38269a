use Rattle.std.proofs.Common.{[], ◌∷◌, ◌++◌, ◌∙◌, ap}
use Rattle.cil_blocks.specs.Contents.{first_word}
use Rattle.cil_macros.specs.declared.placed_word.PlacedWord.{PlacedWord}
use Rattle.cil_macros.specs.Scene.{placed_of_scene}
use Rattle.cil_macros.proofs.CallWordLemmas.{its_macro_word, no_macro_word}
use Rattle.cil_macros.proofs.call_words.add_macro.Goals as goal

pub returns-in_default : goal.returns-in_default
returns-in_default c = λ p here.
    no_macro_word (placed_of_scene c.args.scene.now) c.args.at p here (first_word p.standing.statement.statement.args) (c.in_default.ensures p here) c.args.words.now.items

pub returns : goal.returns
returns c = λ p here.
    let front = c.in-Some.ensures p here in
    its_macro_word (placed_of_scene c.args.scene.now) c.args.at p here (first_word p.standing.statement.statement.args) front.word front.first c.args.words.now.items _
    (c.in_ok-push.ensures.items ∙ ap (λ (w : PlacedWord). c.args.words.now.items ++ w ∷ []) front.is)
