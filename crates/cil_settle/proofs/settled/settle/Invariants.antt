use Rattle.std.specs.Prelude.{◌≡◌, take}
use Rattle.std.proofs.Common.{length, ◌-◌}
use Rattle.cil_settle.specs.Settled.{walked}
use Rattle.cil_settle.specs.Walk.{IsWalked}
use Rattle.cil_settle.proofs.settled.settle.Given as goal

abbrev pub invariant-loop-next : goal.invariant-loop-next
invariant-loop-next l = IsWalked l.edges l.fn.need.items l.left.items l.order.items l.next × (l.lookups ≡ walked l.edges (take l.next l.order.items))

abbrev pub decreases-loop-next : goal.decreases-loop-next
decreases-loop-next l = length l.left.items - l.next
