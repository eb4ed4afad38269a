use Rattle.std.proofs.Common.{◌<◌, length}
use Rattle.cil_commands.specs.server.Devices.{most_failures}
use Rattle.cilhost.proofs.program.put_all.Given as goal

-- no push has failed
abbrev pub invariant-loop-left : goal.invariant-loop-left
invariant-loop-left g l = g.W.Sink.failed l.output < most_failures

abbrev pub decreases-loop-left : goal.decreases-loop-left
decreases-loop-left g l = length l.left
