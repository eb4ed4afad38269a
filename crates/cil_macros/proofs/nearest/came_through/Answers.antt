use Rattle.std.proofs.Common.{arith}
use Rattle.cil_macros.proofs.NearestLemmas.{came_from_top, through_block, through_inherit}
use Rattle.cil_macros.proofs.nearest.came_through.Goals as goal

pub returns-then-is_inherit-clause-through : goal.returns-then-is_inherit-clause-through
returns-then-is_inherit-clause-through c = λ s is.
    let reached = c.loop-opener.invariant.1 s is in
    through_inherit c.args.statements.now c.args.entries.now c.requires.contents c.loop-opener.place s reached c.in-Some.opener c.in-Some.ensures.lower
    (c.in-Some.ensures.opened _ reached.by reached.is) c.if-is_inherit.ensures

pub loop-opener-preserved : goal.loop-opener-preserved
loop-opener-preserved c =
    let within = c.loop-opener.invariant.0 in
    let low = c.in-Some.ensures.lower in (
      omega (arith, within, low),
      λ s is.
          let reached = c.loop-opener.invariant.1 s is in
          through_block c.args.statements.now c.args.entries.now c.requires.contents c.loop-opener.place s reached c.in-Some.opener c.in-Some.ensures.lower
          (c.in-Some.ensures.opened _ reached.by reached.is) c.if-is_inherit.ensures,
    )

pub returns-clause-through : goal.returns-clause-through
returns-clause-through c = λ s is.
    let reached = c.loop-opener.invariant.1 s is in
    came_from_top c.args.statements.now c.args.entries.now c.requires.contents c.loop-opener.place s reached (c.in_default.ensures.opened _ reached.by reached.is)
