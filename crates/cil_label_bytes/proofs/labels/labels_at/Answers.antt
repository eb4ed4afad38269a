use Rattle.std.proofs.Common.{arith}
use Rattle.cil_labels.specs.Parts.{table_of}
use Rattle.cil_label_bytes.proofs.ReadLemmas.{read_apart}
use Rattle.cil_label_bytes.proofs.labels.labels_at.Goals as goal

pub unreachable-requires : goal.unreachable-requires
unreachable-requires c =
    let refused = rw c.in_default.is at c.in_ok-labels.ensures in
    refused (read_apart c.args.are_on c.args.bytes.now (record { levels = table_of c.in_ok-read.read.parts; users = c.in_ok-read.read.users.items }) c.in_ok-read.rest.now (λ i. omega (arith, c.type_inv.bytes i))
    c.in_ok-read.ensures)
