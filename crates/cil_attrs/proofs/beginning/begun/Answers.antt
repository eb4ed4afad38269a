use Rattle.std.proofs.Common.{◌<◌, ◌+◌, ◌∙◌, ap, length, arith}
use Rattle.cil_base.specs.Places.{in_range, longer}
use Rattle.cil_known.specs.Known.{enabled_in}
use Rattle.cil_attrs.specs.Begun.{begun_as}
use Rattle.cil_attrs.proofs.BegunLemmas.{one_begun}
use Rattle.cil_attrs.proofs.beginning.begun.Goals as goal

pub loop-d-init : goal.loop-d-init
loop-d-init c = (ap length c.new-held.ensures.items, λ k e l at. absurd (omega (arith, l)))

pub loop-d-preserved : goal.loop-d-preserved
loop-d-preserved c = (
  ap length c.in_ok-push.ensures.items ∙ longer c.loop-d.held.items c.begun_at.result ∙ ap (λ n. n + 1) c.loop-d.invariant.0,
  one_begun (λ k e. begun_as c.args.space.now (enabled_in c.args.known.now) c.args.known.now.numbers.now k e) c.args.known.now.lookup.names.now c.loop-d.d c.loop-d.held.items c.push.new.self.items c.begun_at.result
      c.loop-d.invariant.0 c.loop-d.invariant.1 c.begun_at.ensures c.in_ok-push.ensures.items,
)

pub returns : goal.returns
returns c =
    let whole = ap length c.entries-d-end.ensures.value in
    let over = c.loop-d-test.false in
    let within = c.loop-d.auto.d-end in
    let long = c.loop-d.invariant.0 in
    record {
      len = omega (arith, whole, over, within, long);
      each = λ d e at. c.loop-d.invariant.1 d e (let there : d < length c.args.known.now.lookup.names.now = in_range c.args.known.now.lookup.names.now d e at in omega (arith, there, whole, over)) at;
    }
