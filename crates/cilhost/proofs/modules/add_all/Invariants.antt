use Rattle.std.proofs.Common.{◌≡◌}
use Rattle.cilhost.proofs.ReadingLemmas.{AreInstalled}
use Rattle.cilhost.proofs.modules.add_all.Given as goal

-- what the files hold stays, as do the system's failures and what was written, and the files so far are installed
abbrev pub invariant-loop-file : goal.invariant-loop-file
invariant-loop-file g l = (g.Y.System.holds l.system ≡ g.Y.System.holds l.fn.system) × (g.Y.System.failure l.system ≡ g.Y.System.failure l.fn.system)
    × AreInstalled (g.Y.System.holds l.fn.system) l.files l.file-index l.modules × (g.Y.System.written l.system ≡ g.Y.System.written l.fn.system)
