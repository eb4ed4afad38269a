use Rattle.std.proofs.Common.{◌∙◌, ap, arith}
use Rattle.cil_locate.proofs.PositionLemmas.{byte_passed, few_newlines, newline_passed}
use Rattle.cil_locate.proofs.position.passed.Goals as goal
use Rattle.cil_locate.proofs.position.passed.Goals.{then-text-place-eq10, else-text-place-eq10}

pub loop-place-init : goal.loop-place-init
loop-place-init c = (
  ap (λ p. p.newlines) c.requires.here,
  ap (λ p. p.begin) c.requires.here,
  rw (ap (λ p. p.newlines) c.requires.here) (few_newlines _ _),
)

pub loop-place-preserved : goal.loop-place-preserved
loop-place-preserved c =
    elim c.if-text-place-eq10.branch [
      | then-text-place-eq10 w ↦ newline_passed _ _ _ _ _ _ w.if-text-place-eq10.true c.loop-place.invariant w.newlines-is w.begin-is
      | else-text-place-eq10 w ↦ byte_passed _ _ _ _ _ _ w.if-text-place-eq10.false c.loop-place.invariant w.newlines-is w.begin-is
    ]
