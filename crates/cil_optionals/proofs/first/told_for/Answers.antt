use Rattle.std.specs.Prelude.{List, length}
use Rattle.std.proofs.Common.{◌+◌, subst, sym}
use Rattle.std.proofs.lemmas.Option.{slice_get-get_or}
use Rattle.cil_optionals.specs.declared.reason.Reason.{Reason}
use Rattle.cil_optionals.specs.FirstParts.{AreTold}
use Rattle.cil_optionals.specs.Parts.{parts_in}
use Rattle.cil_optionals.proofs.FirstPartLemmas.{one_told}
use Rattle.cil_optionals.proofs.first.told_for.Goals as goal

pub loop-step-preserved : goal.loop-step-preserved
loop-step-preserved c =
    let check = c.args.check.now in
    let ps = parts_in check.parts.now in
    let rs = c.args.reasons.now in
    subst (AreTold ps check.times.now check.entries.now (length rs) (c.loop-step.step + 1) rs) (sym {A = List Reason} c.in_ok-push.ensures.items)
    (one_told ps check.times.now check.entries.now (length rs) c.loop-step.step rs c.loop-step.told.items _ c.first_reason.result
    (slice_get-get_or rs c.loop-step.step _ c.loop-step-test.true) c.first_reason.ensures c.loop-step.invariant)
