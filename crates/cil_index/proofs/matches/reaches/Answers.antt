use Rattle.cil_index.proofs.CoverLemmas.{reaches_itself, reaches_set}
use Rattle.cil_index.proofs.matches.reaches.Goals as goal

pub returns-then-is_number : goal.returns-then-is_number
returns-then-is_number c = reaches_set c.args.searched.now.sets.now c.args.target c.args.asked.now.source c.args.asked.now.target c.holds.result (c.is_number.ensures.0 c.if-is_number.true) c.holds.ensures

pub returns : goal.returns
returns c = reaches_itself c.args.searched.now.sets.now c.args.target c.args.asked.now.source c.args.asked.now.target c.is_number.result c.is_number.ensures.1 c.if-is_number.false
