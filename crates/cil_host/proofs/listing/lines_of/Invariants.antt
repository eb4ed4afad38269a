use Rattle.std.specs.Prelude.{◌≡◌, map, take}
use Rattle.cil_host.specs.Listed.{line_of}
use Rattle.cil_host.proofs.listing.lines_of.Given as goal

abbrev pub invariant-loop-number : goal.invariant-loop-number
invariant-loop-number l = l.lines.items ≡ map line_of (take l.number l.modules)
