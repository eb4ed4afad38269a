use Rattle.std.proofs.Common.{◌++◌, ◌∙◌, ap, map}
use Rattle.cil_macros.specs.Items.{scoped_by}
use Rattle.cil_macros.specs.Scene.{placed_of_scene}
use Rattle.cil_macros.proofs.CallWordLemmas.{adds_nothing, its_arguments}
use Rattle.cil_macros.proofs.call_words.add_arguments.Goals as goal

pub returns-in_default : goal.returns-in_default
returns-in_default c = λ p here. adds_nothing c.args.scene.now p (c.in_default.ensures p here) c.args.words.now.items

pub returns : goal.returns
returns c = λ p here.
    let s = c.args.scene.now in
    let u = c.in-Some.unfolding in
    c.in_ok-add_looked_up.ensures (placed_of_scene s)
    ∙ ap (λ ws. map (scoped_by (placed_of_scene s)) c.args.words.now.items ++ ws) (its_arguments s p u.called.now u.arguments.now (c.in-Some.ensures p here))
