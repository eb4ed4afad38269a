use Rattle.std.proofs.Common.{arith}
use Rattle.cil_names.proofs.AskedPartLemmas.{counted_all, counted_end, counted_on}
use Rattle.cil_names.proofs.asked_parts.inside.Goals as goal

pub returns-in_default-clause-inside : goal.returns-in_default-clause-inside
returns-in_default-clause-inside c = λ ps.
    counted_end ps c.args.parts.now c.loop-at.at c.loop-at.depth (c.loop-at.invariant.2 ps) c.index-parts-at.result _ c.loop-at-test.true c.index-parts-at.is (c.in_default.ensures.inside ps _)

pub loop-at-preserved : goal.loop-at-preserved
loop-at-preserved c =
    let deeper = c.in-Some.ensures.deeper in
    let low = c.loop-at.invariant.0 in
    let test = c.loop-at-test.true in (
      omega (arith, deeper, low),
      omega (arith, test),
      λ ps.
          counted_on ps c.args.parts.now c.loop-at.at c.loop-at.depth (c.loop-at.invariant.2 ps) c.index-parts-at.result _ c.loop-at-test.true c.index-parts-at.is c.in-Some.behind
          (c.in-Some.ensures.inside ps _),
    )

pub returns-clause-inside : goal.returns-clause-inside
returns-clause-inside c = λ ps. counted_all ps c.args.parts.now c.loop-at.at c.loop-at.depth (c.loop-at.invariant.2 ps) c.loop-at-test.false c.loop-at.invariant.1
