use Rattle.std.proofs.Common.{sym}
use Rattle.cil_table_bytes.proofs.NewNames.{known, missing}
use Rattle.cil_table_bytes.proofs.names.is_missing.Goals as goal

pub returns-in-Some : goal.returns-in-Some
returns-in-Some c = sym (known c.args.name.now c.args.names.now c.in-Some.field-0 c.in-Some.ensures.found.at)

pub returns-in-None : goal.returns-in-None
returns-in-None c = sym (missing c.args.name.now c.args.names.now c.in-None.ensures.none)
