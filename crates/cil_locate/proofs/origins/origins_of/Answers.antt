use Rattle.std.proofs.Common.{◌∙◌, ap, length, arith}
use Rattle.cil_locate.proofs.OriginLemmas.{file_in_front, from_all, from_known, from_last, from_unknown}
use Rattle.cil_locate.proofs.origins.origins_of.Goals as goal

pub loop-left-init : goal.loop-left-init
loop-left-init c = (omega arith, from_last _ _ _ (rw c.len.ensures.len at (c.in_ok-origins.ensures.items_if_clones_equal (λ y e. e))))

pub loop-left-preserved-in-Some : goal.loop-left-preserved-in-Some
loop-left-preserved-in-Some c = (
  omega (arith, c.loop-left.invariant.0),
  from_known _ _ _ _ c.in-Some.number c.loop-left.left c.index-files-left.result c.len.ensures.modules.rising (omega (arith, c.loop-left-test.true))
      (file_in_front _ _ _ c.loop-left-test.true c.loop-left.invariant.0 c.index-files-left.is) c.in-Some.ensures.within (c.in-Some.ensures.found ∙ c.text.ensures.text)
      c.loop-left.invariant.1,
)

pub loop-left-preserved : goal.loop-left-preserved
loop-left-preserved c = (
  omega (arith, c.loop-left.invariant.0),
  from_unknown _ _ _ _ c.loop-left.left c.index-files-left.result (omega (arith, c.loop-left-test.true))
      (file_in_front _ _ _ c.loop-left-test.true c.loop-left.invariant.0 c.index-files-left.is) (rw c.text.ensures.text at c.in_default.ensures.none) c.loop-left.invariant.1,
)

pub returns : goal.returns
returns c = from_all _ _ _ _ c.loop-left-test.false c.loop-left.invariant.1
