use Rattle.std.proofs.Common.{◌≡◌, ◌++◌, drop}
use Rattle.cil_macros.proofs.listed.push_parts.Given as goal

abbrev pub invariant-loop-part : goal.invariant-loop-part
invariant-loop-part l = l.parts.items ++ drop l.part-index l.more ≡ l.fn.parts.items ++ l.more
