use Rattle.cil_words.proofs.CellLemmas.{placed_last}
use Rattle.cil_words.proofs.number_lists.Lists.add.Goals as goal

pub returns-clause-placed : goal.returns-clause-placed
returns-clause-placed c = placed_last c.args.self.now c.push.new.self c.args.list.now c.len-place.result c.len-place.ensures c.in_ok-push.ensures.pushed
