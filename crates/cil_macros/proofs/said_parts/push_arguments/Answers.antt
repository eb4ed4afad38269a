use Rattle.std.proofs.Common.{◌++◌, ◌∙◌, ap}
use Rattle.cil_macros.specs.Listed.{all_parts_of, parts_there}
use Rattle.cil_macros.specs.Scene.{placed_of_scene}
use Rattle.cil_macros.proofs.SaidPartLemmas.{its_values, pushes_nothing}
use Rattle.cil_macros.proofs.said_parts.push_arguments.Goals as goal

pub returns-in_default : goal.returns-in_default
returns-in_default c = λ p here. pushes_nothing c.args.scene.now p (c.in_default.ensures p here) c.args.parts.now.items

pub returns : goal.returns
returns c = λ p here.
    let s = c.args.scene.now in
    let u = c.in-Some.unfolding in
    let so = c.in-Some.ensures p here in
    c.in_ok-push_values.ensures (placed_of_scene s) so.bound.whole
    ∙ ap (λ ts. parts_there (placed_of_scene s) c.args.parts.now.items ++ all_parts_of ts) (its_values s p u.called.now u.arguments.now so)
