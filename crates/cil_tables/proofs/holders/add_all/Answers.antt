use Rattle.cil_tables.proofs.HolderLemmas.{with_one}
use Rattle.cil_tables.proofs.holders.add_all.Goals as goal

pub returns-clause-added : goal.returns-clause-added
returns-clause-added c = with_one _ _ _ c.in-Some.number c.in-Some.ensures c.in_ok-add.ensures.added
