use Rattle.std.proofs.Common.{arith}
use Rattle.cil_table_bytes.proofs.Orderly.{links_read}
use Rattle.cil_table_bytes.proofs.links.listed_at.Goals as goal

pub returns-clause-rising : goal.returns-clause-rising
returns-clause-rising c =
    links_read c.args.ends.holders c.args.ends.helds c.args.bytes.now c.in_ok-links.links.items c.in_ok-links.rest.now (λ i. omega (arith, c.type_inv.bytes i)) c.in_ok-links.ensures
