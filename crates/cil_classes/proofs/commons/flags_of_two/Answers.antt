use Rattle.std.proofs.Common.{◌<◌, ◌∙◌, arith, subst, sym}
use Rattle.std.proofs.lemmas.Result.{IfOk-from_err}
use Rattle.cil_classes.proofs.CommonLemmas.{all_flagged, begun_flagged, more_flagged}
use Rattle.cil_classes.proofs.commons.flags_of_two.Goals as goal

pub loop-at-init : goal.loop-at-init
loop-at-init c = begun_flagged c.args.shared.now c.args.entries c.in_ok-flags.flags.items (c.in_ok-flags.ensures.items_if_clones_equal (λ y e. e))

pub flag_next-requires-clause-within : goal.flag_next-requires-clause-within
flag_next-requires-clause-within c = λ h ch. subst (λ n. h.class < n) (sym c.loop-at.invariant.0) (c.requires.within h ch)

pub loop-at-preserved : goal.loop-at-preserved
loop-at-preserved c = (c.flag_next.ensures.len ∙ c.loop-at.invariant.0, more_flagged c.args.shared.now c.loop-at.at _ _ c.loop-at.invariant.1 c.flag_next.ensures.flagged)

pub returns : goal.returns
returns c = all_flagged c.args.shared.now c.requires.rising c.loop-at.at _ (omega arith) c.loop-at.invariant.1

pub returns-in_err-flags : goal.returns-in_err-flags
returns-in_err-flags c = IfOk-from_err c.from_residual.result _ c.from_residual.ensures.0
