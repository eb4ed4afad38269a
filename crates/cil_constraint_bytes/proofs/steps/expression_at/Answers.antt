use Rattle.std.proofs.Common.{arith}
use Rattle.cil_constraint_bytes.specs.Bounds.{limits_of}
use Rattle.cil_constraint_bytes.proofs.Exact.{read_is}
use Rattle.cil_constraint_bytes.proofs.steps.expression_at.Goals as goal

pub from_vec-requires : goal.from_vec-requires
from_vec-requires c =
    read_is (limits_of c.args.bounds.now) c.args.bytes.now c.in_ok-rest.ensures.0 c.in_ok-rest.rest.now c.push_tree.new.steps.items
    (λ i. omega (arith, c.type_inv.bytes i)) c.in_ok-rest.ensures.1
    (rw c.new-steps.ensures.items at c.in_ok-rest.ensures.2)
