use Rattle.std.specs.Prelude.{◌≡◌, true}
use Rattle.std.proofs.Common.{arith, refl, sym}
use Rattle.std.proofs.lemmas.Option.{slice_get-get_or, slice_get_within}
use Rattle.cil_optionals.specs.Parts.{is_step, parts_in}
use Rattle.cil_optionals.specs.Times.{after, names_after}
use Rattle.cil_optionals.proofs.TimeLemmas.{so_far}
use Rattle.cil_optionals.proofs.checking.Check.are_steps.Goals as goal

pub loop-step-preserved : goal.loop-step-preserved
loop-step-preserved c =
    let check = c.args.self.now in
    so_far (λ k r. is_step (parts_in check.parts.now) (after check.times.now k) (names_after check.entries.now k) r ≡ true) c.args.reasons.now c.loop-step.step _ c.loop-step.invariant
    (slice_get-get_or c.args.reasons.now c.loop-step.step _ c.loop-step-test.true) (sym c.if-not-is_step.ensures)

pub returns : goal.returns
returns c = (
  λ t k r e. c.loop-step.invariant k r (let l = slice_get_within c.args.reasons.now k r e in let m = c.loop-step-test.false in omega (arith, l, m)) e,
  λ steps. refl,
)
