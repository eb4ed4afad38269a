use Rattle.std.proofs.Common.{arith, ap, ◌∙◌}
use Rattle.cil_base.specs.Among.{among}
use Rattle.cil_settle.proofs.ReachLemmas.{flags_reached}
use Rattle.cil_settle.proofs.reach.reached.Goals as goal

pub returns : goal.returns
returns c = flags_reached c.args.edges.now c.args.need.items c.in_ok-settled.settled.order.items c.in_ok-flags.flags.items c.in_ok-settled.ensures.order c.requires.starts c.requires.within
    (omega (arith, c.in_ok-flags.ensures.len)) (λ v l. c.in_ok-flags.ensures.each v (omega (arith, l)) ∙ ap (λ xs. among xs v) c.as_slice.ensures.value)
