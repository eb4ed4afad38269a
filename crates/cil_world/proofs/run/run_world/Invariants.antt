use Rattle.std.proofs.Common.{◌≡◌, length}
use Rattle.cil_world.proofs.RunLemmas.{IsRunUpTo}
use Rattle.cil_world.proofs.run.run_world.Given as goal

abbrev pub invariant-loop-event : goal.invariant-loop-event
invariant-loop-event l = IsRunUpTo l.hosts l.events l.replies.items l.world.hosts.items l.world.exports.items × (length l.replies.items ≡ l.event-index)
