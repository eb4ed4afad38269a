use Rattle.std.proofs.Common.{◌-◌, ◌∙◌, ap, arith, subst, sym}
use Rattle.std.specs.Prelude.{Contains, slice_get}
use Rattle.cil_base.specs.Places.{get_contains, not_there, there_as}
use Rattle.cil_macros.proofs.ChainLemmas.{its_body, not_gone}
use Rattle.cil_macros.proofs.chain.Brought.body_at.Goals as goal

pub returns-in_err-body-clause-body : goal.returns-in_err-body-clause-body
returns-in_err-body-clause-body c =
    let behind = c.if-at-standing.false in
    let within = c.requires in
    λ ws ss long are_bodies. absurd (not_gone ws ss c.args.self.now.entries.items c.args.self.now.bodies.items are_bodies c.args.at (c.args.at - c.args.standing)
    c.index.result.now (omega (arith, behind, within)) (omega (arith, behind, long)) c.index.ensures
    (ap (λ xs. slice_get xs c.index.result.now.body) (sym c.deref.ensures.value) ∙ not_there c.deref.result.now c.index.result.now.body c.in_err-body.ensures.lookup.3))

pub returns-clause-body : goal.returns-clause-body
returns-clause-body c =
    let behind = c.if-at-standing.false in
    let within = c.requires in
    λ ws ss long are_bodies. its_body ws ss c.args.self.now.entries.items c.args.self.now.bodies.items are_bodies c.args.at (c.args.at - c.args.standing)
    c.index.result.now (omega (arith, behind, within)) (omega (arith, behind, long)) c.index.ensures c.in_ok-body.body.now
    (ap (λ xs. slice_get xs c.index.result.now.body) (sym c.deref.ensures.value)
    ∙ there_as c.deref.result.now c.index.result.now.body c.in_ok-body.body.now c.in_ok-body.ensures.lookup.3.0 c.in_ok-body.ensures.lookup.1)

pub returns-clause-kept : goal.returns-clause-kept
returns-clause-kept c =
    subst (λ bs. Contains bs c.in_ok-body.body.now) c.deref.ensures.value
    (get_contains c.deref.result.now c.index.result.now.body c.in_ok-body.body.now
    (there_as c.deref.result.now c.index.result.now.body c.in_ok-body.body.now c.in_ok-body.ensures.lookup.3.0 c.in_ok-body.ensures.lookup.1))
