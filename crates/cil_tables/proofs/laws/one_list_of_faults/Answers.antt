use Rattle.cil_tables.proofs.OneTable.{one_list_of_faults}
use Rattle.cil_tables.proofs.laws.one_list_of_faults.Goals as goal

pub returns : goal.returns
returns c = one_list_of_faults
