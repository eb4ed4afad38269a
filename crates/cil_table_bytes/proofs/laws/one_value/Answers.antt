use Rattle.cil_table_bytes.proofs.TableLaws as laws
use Rattle.cil_table_bytes.proofs.laws.one_value.Goals as goal

pub returns : goal.returns
returns c = laws.one_value
