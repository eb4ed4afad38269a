use Rattle.std.proofs.Common.{subst, sym}
use Rattle.cil_syntax.specs.Written as written
use Rattle.cil_blocks.proofs.DoubledLemmas.{if_ok}
use Rattle.cil_macros.specs.Macros.{all_standing}
use Rattle.cil_macros.specs.Meant.{AreArguments}
use Rattle.cil_macros.specs.Parameters.{macro_parameters}
use Rattle.cil_macros.specs.Scene.{placed_of_scene}
use Rattle.cil_macros.specs.Walks.{written_in}
use Rattle.cil_macros.proofs.CallOpening.{bound_there, no_call_there, no_macro_there}
use Rattle.cil_macros.proofs.openings.Call.arguments.Goals as goal

pub returns-in_default : goal.returns-in_default
returns-in_default c = λ p u here is at.
    let s = c.args.self.now.scene.now.spaces.now in
    absurd (no_macro_there (written_in s) (all_standing s) p u is (c.in_default.ensures u.macro at))

pub returns-in_default-stated_at : goal.returns-in_default-stated_at
returns-in_default-stated_at c = λ p u here is at.
    let s = c.args.self.now.scene.now.spaces.now in
    absurd (no_call_there (written_in s) (all_standing s) p u is (c.in_default-stated_at.ensures p here))

pub returns : goal.returns
returns c =
    let s = c.args.self.now.scene.now in
    if_ok _ _ c.meanings.result
    (λ ms so p u here is at.
    subst (λ (y : written.Statement). AreArguments (placed_of_scene s) (macro_parameters y.args) u.bounds ms.items) (sym (c.in-Some.ensures u.macro at))
    (so p u.bounds here (bound_there (written_in s.spaces.now) (all_standing s.spaces.now) p u is c.in-Some-stated_at.call.now c.in-Some.called.now
    (c.in-Some-stated_at.ensures p here) (c.in-Some.ensures u.macro at))))
    c.meanings.ensures
