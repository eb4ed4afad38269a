use Rattle.std.proofs.Common.{◌++◌, ◌∙◌, ap}
use Rattle.cil_syntax.proofs.NodesJudged.{on_ok}
use Rattle.cil_macros.specs.Listed.{parts_of, parts_there}
use Rattle.cil_macros.specs.Scene.{placed_of_scene}
use Rattle.cil_macros.proofs.list_values.Caller.push_meaning.Goals as goal

pub returns-in-Plain : goal.returns-in-Plain
returns-in-Plain c =
    on_ok c.push_meant.result _ _
    (λ so p here.
    let ps = placed_of_scene c.args.self.now.scene.now in
    so ps ∙ ap (λ u. parts_there ps c.args.parts.now.items ++ parts_of u) (c.in-Plain.ensures.says p here)) c.push_meant.ensures

pub returns-in-List : goal.returns-in-List
returns-in-List c =
    on_ok c.push_for.result _ _
    (λ so p here.
    let ps = placed_of_scene c.args.self.now.scene.now in
    so ps c.in-List.ensures.whole ∙ ap (λ u. parts_there ps c.args.parts.now.items ++ parts_of u) (c.in-List.ensures.says p here)) c.push_for.ensures
