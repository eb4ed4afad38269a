use Rattle.std.proofs.Common.{arith}
use Rattle.cil_table_bytes.proofs.Orderly.{names_read}
use Rattle.cil_table_bytes.proofs.names.names_at.Goals as goal

pub returns-clause-rising : goal.returns-clause-rising
returns-clause-rising c = names_read _ c.args.bytes.now c.in_ok-names.names.items c.in_ok-names.rest.now (λ i. omega (arith, c.type_inv.bytes i)) c.in_ok-names.ensures
