use Rattle.cil_locate.proofs.LineLemmas.{all_turns, more_turns, no_turn}
use Rattle.cil_locate.proofs.lines.put_repeated.Goals as goal

pub loop-turn-init : goal.loop-turn-init
loop-turn-init g c = no_turn c.args.output.now c.args.byte

pub loop-turn-preserved : goal.loop-turn-preserved
loop-turn-preserved g c = more_turns _ _ _ c.args.byte c.loop-turn._turn c.loop-turn.invariant c.put.ensures

pub returns : goal.returns
returns g c = all_turns _ _ c.args.byte c.loop-turn._turn c.args.count c.loop-turn-test.false c.loop-turn.auto._turn-end c.loop-turn.invariant
