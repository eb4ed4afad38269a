use Rattle.std.specs.Prelude.{ℕ}
use Rattle.std.proofs.Common.{ap, ◌∙◌}
use Rattle.std.specs.Global.{Vec}
use Rattle.std.specs.List.{list_all}
use Rattle.cil_optionals.specs.Times.{after}
use Rattle.cil_optionals.proofs.TimeLemmas.{latest_more}
use Rattle.cil_optionals.proofs.times.latest.Goals as goal

pub loop-round-preserved : goal.loop-round-preserved
loop-round-preserved c = λ k l.
    latest_more (λ (r : Vec ℕ). list_all (after c.args.times.now k) r.items) c.args.rounds.now c.round-item.result c.loop-round.round-index k _ _ _ c.loop-round-test.true c.round-item.is
    (c.loop-round.invariant k l) (c.earliest.ensures k l ∙ ap (list_all (after c.args.times.now k)) c.as_slice.ensures.value) c.later-most.ensures
