use Rattle.std.proofs.Common.{◌∙◌, [], ◌∷◌, ap, arith, length, subst, sym}
use Rattle.std.specs.Prelude.{slice_get}
use Rattle.std.proofs.lemmas.List.{length-append}
use Rattle.cil_base.specs.Places.{is_there}
use Rattle.cil_macros.specs.Macros.{all_standing}
use Rattle.cil_macros.specs.Openings.{AreOpenings}
use Rattle.cil_macros.specs.Scene.{placed_of_scene}
use Rattle.cil_macros.specs.Walks.{written_in}
use Rattle.cil_macros.proofs.CallOpening.{one_opening}
use Rattle.cil_macros.proofs.openings.openings_of.Goals as goal

pub opening_of-requires-clause-next : goal.opening_of-requires-clause-next
opening_of-requires-clause-next c =
    ap (λ k. slice_get c.args.scene.now.brought.now.bodies.items k) (ap length c.as_slice.ensures.value ∙ c.loop-body.invariant.0)
    ∙ ap (λ xs. slice_get xs c.loop-body.body-index) (sym c.as_slice-body-items.ensures.value)
    ∙ is_there c.as_slice-body-items.result.now c.loop-body.body-index _ c.loop-body-test.true

pub opening_of-requires-clause-opened : goal.opening_of-requires-clause-opened
opening_of-requires-clause-opened c =
    let s = c.args.scene.now in
    subst (λ os. AreOpenings (written_in s.spaces.now) (all_standing s.spaces.now) (placed_of_scene s) s.brought.now.bodies.items os) (sym c.as_slice.ensures.value) c.loop-body.invariant.1

pub loop-body-preserved : goal.loop-body-preserved
loop-body-preserved c =
    let s = c.args.scene.now in
    let os = c.loop-body.openings.items in
    let l = length-append os (c.in_ok-opening.opening ∷ []) in
    let n = ap length c.in_ok-push.ensures.items in
    let k = c.loop-body.invariant.0 in
    let next = ap (λ k. slice_get s.brought.now.bodies.items k) c.loop-body.invariant.0
    ∙ ap (λ xs. slice_get xs c.loop-body.body-index) (sym c.as_slice-body-items.ensures.value)
    ∙ is_there c.as_slice-body-items.result.now c.loop-body.body-index _ c.loop-body-test.true in (
      omega (arith, l, n, k),
      one_opening s c.requires os c.loop-body.invariant.1 _ c.in_ok-opening.opening c.push.new.self.items next c.in_ok-opening.ensures c.in_ok-push.ensures.items,
    )
