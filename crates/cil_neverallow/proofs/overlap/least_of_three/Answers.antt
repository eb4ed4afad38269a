use Rattle.cil_neverallow.proofs.EndLemmas.{climb_ends}
use Rattle.cil_neverallow.proofs.overlap.least_of_three.Goals as goal

pub loop-climb-preserved : goal.loop-climb-preserved
loop-climb-preserved c = λ t all. c.in-Some.ensures.least t all (c.loop-climb.invariant t all)

pub returns-then-climb : goal.returns-then-climb
returns-then-climb c = climb_ends c.args.first.now c.args.second.now c.args.third.now c.loop-climb.start c.in-Some.climb c.loop-climb.invariant c.in-Some.ensures c.if-climb.true

pub returns : goal.returns
returns c = λ t all. c.in_default.ensures t all (c.loop-climb.invariant t all)
