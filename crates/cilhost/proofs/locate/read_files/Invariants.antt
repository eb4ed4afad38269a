use Rattle.std.proofs.Common.{◌≡◌}
use Rattle.cilhost.proofs.LocateLemmas.{AreReadUpTo}
use Rattle.cilhost.proofs.locate.read_files.Given as goal

-- what the files hold stays, as do the system's failures, and the files so far are read
abbrev pub invariant-loop-name : goal.invariant-loop-name
invariant-loop-name g l = (g.Y.System.holds l.system ≡ g.Y.System.holds l.fn.system) × (g.Y.System.failure l.system ≡ g.Y.System.failure l.fn.system)
    × AreReadUpTo (g.Y.System.holds l.fn.system) l.names l.files.items l.name-index
