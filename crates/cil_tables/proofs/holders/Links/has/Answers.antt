use Rattle.cil_tables.proofs.HolderLemmas.{told_there}
use Rattle.cil_tables.proofs.holders.Links.has.Goals as goal

pub returns : goal.returns
returns c = told_there _ _ _ _ _ _ c.self.view_is c.as_slice.ensures.value c.has_in.ensures
