use Rattle.std.proofs.lemmas.Result.{on_ok_weaker}
use Rattle.cil_words.proofs.walk.Walk.scoped.Goals as goal

pub returns-then-is_at-clause-asks : goal.returns-then-is_at-clause-asks
returns-then-is_at-clause-asks c = on_ok_weaker c.push_found.result (λ so xs entries permissions. so) c.push_found.ensures.asks

pub returns-else-is_at-clause-asks : goal.returns-else-is_at-clause-asks
returns-else-is_at-clause-asks c = on_ok_weaker c.push_found-else-is_at.result (λ so xs entries permissions. so) c.push_found-else-is_at.ensures.asks
