use Rattle.cil_index.proofs.GatherLemmas.{small_none, small_one}
use Rattle.cil_index.proofs.NumberLemmas.{then_ok}
use Rattle.cil_index.proofs.sets.small_number.Goals as goal

pub returns-in-Some : goal.returns-in-Some
returns-in-Some c = then_ok _ _ c.next.result (λ n next. small_one c.args.set.now c.in-Some.number n c.requires c.in-Some.ensures.member next) c.next.ensures

pub returns-in-None : goal.returns-in-None
returns-in-None c = small_none c.args.set.now c.in-None.ensures
