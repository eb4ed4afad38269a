-- The order of nodes: by the entry, then by the number of the permission. This project's profile.
use Rattle.std.specs.Prelude.{◌≡◌}
use Rattle.std.specs.Cmp.{IsTotalOrder}
use Rattle.std.specs.Ordering.{nat_cmp, on, then_cmp}
use Rattle.std.specs.declared.cmp.Ordering.{Ordering}
use Rattle.std.specs.declared.cmp.Ordering.TheVariants.{Equal}
use Rattle.std.proofs.lemmas.Cmp.{then_total, on_total, nat_cmp_total}
use Rattle.cil_base.specs.Paths.{both_equal, same_by}
use Rattle.cil_classes.specs.declared.nodes.Node.{Node}

abbrev pub node_cmp : Node → Node → Ordering
node_cmp = then_cmp (on (λ n. n.entry) nat_cmp) (on (λ n. n.number) nat_cmp)

-- any two nodes have an order
pub node_total : IsTotalOrder node_cmp
node_total = then_total (on_total (λ n. n.entry) nat_cmp_total) (on_total (λ n. n.number) nat_cmp_total)

pub same_node : (a b : Node) → a.entry ≡ b.entry → a.number ≡ b.number → a ≡ b
same_node a b e n = λ i. record { entry = e i; number = n i }

-- two nodes that tie are one
pub one_node : (a b : Node) → node_cmp a b ≡ Equal → a ≡ b
one_node a b e = let both = both_equal _ _ e in same_node a b (same_by _ _ both.0) (same_by _ _ both.1)
