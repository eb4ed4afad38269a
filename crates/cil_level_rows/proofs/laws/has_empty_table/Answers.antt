use Rattle.cil_level_rows.proofs.NoLevels.{is_empty_table}
use Rattle.cil_level_rows.proofs.laws.has_empty_table.Goals as goal

pub returns : goal.returns
returns c = λ xs s users none. is_empty_table xs s none users
