use Rattle.std.proofs.Common.{◌≡◌, ◌+◌, ◌-◌, length}
use Rattle.cil_tables.specs.Holders.{AreRising, links_from}
use Rattle.cil_tables.proofs.holders.reach.Given as goal

abbrev pub invariant-loop-alloc : goal.invariant-loop-alloc
invariant-loop-alloc l = (links_from 0 l.rows.items ≡ links_from 0 l.fn.rows.items) × (AreRising l.fn.rows.items → AreRising l.rows.items)

abbrev pub decreases-loop-alloc : goal.decreases-loop-alloc
decreases-loop-alloc l = l.holder + 1 - length l.rows.items
