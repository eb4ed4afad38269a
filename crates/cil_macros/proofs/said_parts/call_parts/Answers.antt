use Rattle.cil_macros.specs.Macros.{all_standing}
use Rattle.cil_macros.specs.Scene.{placed_of_scene}
use Rattle.cil_macros.specs.Walks.{written_in}
use Rattle.cil_macros.proofs.SaidPartLemmas.{call_so}
use Rattle.cil_macros.proofs.said_parts.call_parts.Goals as goal

pub returns : goal.returns
returns c = λ p here.
    let s = c.args.scene.now in
    call_so (written_in s.spaces.now) (all_standing s.spaces.now) p (placed_of_scene s) c.new-parts.result.items c.push_macro.new.parts.items c.push_arguments.new.parts.items
    c.new-parts.ensures.items (c.in_ok-push_macro.ensures p here) (c.in_ok-push_arguments.ensures p here)
