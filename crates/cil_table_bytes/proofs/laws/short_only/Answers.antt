use Rattle.cil_table_bytes.proofs.TableLaws as laws
use Rattle.cil_table_bytes.proofs.laws.short_only.Goals as goal

pub returns : goal.returns
returns c = laws.short_only
