use Rattle.cil_tables.proofs.AlwaysCompiles.{always_compiles_or_fails}
use Rattle.cil_tables.proofs.laws.always_compiles_or_fails.Goals as goal

pub returns : goal.returns
returns c = always_compiles_or_fails c.always_program_or_faults.ensures c.flat_contents.ensures c.flat_instances.ensures c.flat_is_greatest.ensures
