use Rattle.std.specs.Prelude.{◌≡◌, take}
use Rattle.cil_host.proofs.lines.copied_reasons.Given as goal

abbrev pub invariant-loop-number : goal.invariant-loop-number
invariant-loop-number l = l.copy.items ≡ take l.number l.lines
