use Rattle.cil_level_rows.proofs.OneTableLaws.{one_level_table}
use Rattle.cil_level_rows.proofs.laws.one_level_table.Goals as goal

pub returns : goal.returns
returns c = one_level_table
