use Rattle.std.proofs.lemmas.Option.{slice_get-get_or}
use Rattle.cil_optionals.specs.Parts.{parts_in}
use Rattle.cil_optionals.proofs.TimeLemmas.{start_times, times_more}
use Rattle.cil_optionals.proofs.times.times_of.Goals as goal

pub loop-step-init : goal.loop-step-init
loop-step-init c = start_times (parts_in c.args.parts.now) c.args.reasons.now _ c.in_ok-times.ensures

pub loop-step-preserved : goal.loop-step-preserved
loop-step-preserved c =
    times_more (parts_in c.args.parts.now) c.args.reasons.now c.loop-step.step _ _ _ _ (slice_get-get_or c.args.reasons.now c.loop-step.step _ c.loop-step-test.true) c.left_out.ensures
    c.loop-step.invariant c.note.ensures
