use Rattle.std.proofs.Common.{suc, ◌≡◌, ◌∙◌, ap, arith, sym}
use Rattle.std.specs.Prelude.{slice_get}
use Rattle.cil_base.specs.Places.{there_as}
use Rattle.cil_blocks.proofs.NamespaceKeys.{inner_key}
use Rattle.cil_blocks.proofs.namespaces.Namespaces.get.Goals as goal

pub returns-clause-space : goal.returns-clause-space
returns-clause-space c =
    let (positive, is) = c.in_ok-place.ensures in
    let there = there_as c.as_slice-keys.result.now c.in_ok-place.place c.in_ok-outer.field-0.now c.in_ok-outer.ensures.lookup.3.0 c.in_ok-outer.ensures.lookup.1 in
    rw (← c.self.view_is) (rw c.of.ensures
    (inner_key c.self.inside.keys.keys c.args.number c.in_ok-place.place c.in_ok-outer.field-0.now
    (let e : c.args.number ≡ suc c.in_ok-place.place = omega (arith, positive, is) in e)
    (ap (λ ks. slice_get ks c.in_ok-place.place) (sym c.as_slice-keys.ensures.keys) ∙ there)))
