use Rattle.std.proofs.Common.{[], refl, subst, sym}
use Rattle.cil_macros.specs.Items.{items_in}
use Rattle.cil_optionals.specs.Lines.{AreReasonsOf, no_reason}
use Rattle.cil_optionals.proofs.ReasonLines.{all_reasons, more_lines, reason_there}
use Rattle.cil_optionals.proofs.lines.why_lines.Goals as goal

pub why-requires : goal.why-requires
why-requires c =
    let right = c.requires.right in
    reason_there (items_in c.args.instances.now) right.0 c.args.reasons.now right.1 c.loop-reason.reason-index _ c.loop-reason-test.true

pub loop-reason-init : goal.loop-reason-init
loop-reason-init c = subst (AreReasonsOf (items_in c.args.instances.now) []) (sym c.new-lines.ensures.items) no_reason

pub loop-reason-preserved : goal.loop-reason-preserved
loop-reason-preserved c =
    more_lines (items_in c.args.instances.now) c.args.reasons.now c.loop-reason.reason-index _ _ _ _ _ c.loop-reason-test.true refl c.loop-reason.invariant c.in_ok-why.ensures
    c.in_ok-push.ensures.items

pub returns : goal.returns
returns c = all_reasons (items_in c.args.instances.now) c.args.reasons.now c.loop-reason.reason-index _ c.loop-reason-test.false c.loop-reason.invariant
