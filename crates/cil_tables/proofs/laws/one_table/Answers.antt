use Rattle.cil_tables.proofs.OneTable.{one_table}
use Rattle.cil_tables.proofs.laws.one_table.Goals as goal

pub returns : goal.returns
returns c = one_table
