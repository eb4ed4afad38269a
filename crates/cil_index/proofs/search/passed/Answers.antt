use Rattle.cil_index.proofs.RunLemmas.{passed_none}
use Rattle.cil_index.proofs.search.passed.Goals as goal

pub loop-at-init : goal.loop-at-init
loop-at-init c = passed_none c.args.aims.now.items c.args.start c.args.aim
