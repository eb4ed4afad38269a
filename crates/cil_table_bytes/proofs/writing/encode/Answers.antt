use Rattle.std.proofs.Common.{[]}
use Rattle.cil_table_bytes.proofs.writing.encode.Goals as goal

pub returns : goal.returns
returns c = c.in_ok-put_tables.ensures [] c.new-out.ensures.items
