use Rattle.cil_optionals.specs.Parts.{parts_in}
use Rattle.cil_optionals.proofs.RemovalLemmas.{passed_more}
use Rattle.cil_optionals.proofs.removal.pass.Goals as goal

pub loop-at-preserved : goal.loop-at-preserved
loop-at-preserved c = (
  c.in_ok-out.ensures.steps,
  passed_more (parts_in c.args.parts.now) c.args.entries.now c.loop-at.at c.args.left.now.items c.loop-at.left.items c.turn.new.left.items c.loop-at.taken c.in_ok-out.out c.loop-at.invariant.1
      c.in_ok-out.ensures.turned,
)
