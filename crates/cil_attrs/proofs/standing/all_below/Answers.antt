use Rattle.std.proofs.Common.{◌<◌, ◌+◌, ◌∙◌, ap, length, arith}
use Rattle.cil_base.specs.Places.{in_range, longer}
use Rattle.cil_attrs.proofs.StandingLemmas.{one_below}
use Rattle.cil_attrs.proofs.standing.all_below.Goals as goal

pub loop-d-init : goal.loop-d-init
loop-d-init c = (ap length c.new-sets.ensures.items, λ d h l at. absurd (omega (arith, l)))

pub loop-d-preserved : goal.loop-d-preserved
loop-d-preserved c = (
  ap length c.in_ok-push.ensures.items ∙ longer c.loop-d.sets.items c.in_ok-below_at.field-0 ∙ ap (λ n. n + 1) c.loop-d.invariant.0,
  one_below c.args.items c.args.held.now c.loop-d.d c.loop-d.sets.items c.push.new.self.items c.in_ok-below_at.field-0 c.loop-d.invariant.0 c.in_ok-push.ensures.items c.loop-d.invariant.1
      (λ h at. c.in_ok-below_at.ensures c.args.items h c.in_ok-all.ensures at),
)

pub returns : goal.returns
returns c =
    let over = c.loop-d-test.false in
    let within = c.loop-d.auto.d-end in
    let long = c.loop-d.invariant.0 in
    record {
      len = omega (arith, over, within, long);
      each = λ d h at. c.loop-d.invariant.1 d h (let there : d < length c.args.held.now = in_range c.args.held.now d h at in omega (arith, there, over)) at;
    }
