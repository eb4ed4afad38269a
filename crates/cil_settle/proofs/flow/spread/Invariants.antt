use Rattle.std.proofs.Common.{length, ◌+◌, ◌-◌, ◌*◌}
use Rattle.cil_settle.specs.Spread.{IsSpreading, most_masks, total}
use Rattle.cil_settle.proofs.flow.spread.Given as goal

abbrev pub invariant-loop-next : goal.invariant-loop-next
invariant-loop-next l = IsSpreading l.edges l.fn.masks.items l.all.items l.queue.items l.next

abbrev pub decreases-loop-next : goal.decreases-loop-next
decreases-loop-next l = (length l.all.items * most_masks - total l.all.items) + (length l.queue.items - l.next)
