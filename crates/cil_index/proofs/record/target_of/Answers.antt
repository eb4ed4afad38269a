use Rattle.std.proofs.Common.{[]}
use Rattle.cil_index.proofs.OrderLemmas.{itself_is, reach_is}
use Rattle.cil_index.proofs.record.target_of.Goals as goal

pub returns-in-Types : goal.returns-in-Types
returns-in-Types c = λ distinct named size are. rw c.in-Types.is (reach_is [] distinct named c.args.numbers.now are c.number_at.result c.in-Types.d c.number_at.ensures)

pub returns-in-Itself : goal.returns-in-Itself
returns-in-Itself c = λ distinct named size are. rw c.in-Itself.is (itself_is distinct c.args.itself size)
