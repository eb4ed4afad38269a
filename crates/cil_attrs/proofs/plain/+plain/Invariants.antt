use Rattle.std.proofs.Common.{◌≡◌, ℕ, drop}
use Rattle.cil_syntax.specs.Said.{all_said}
use Rattle.cil_attrs.specs.Plain.{are_plain}
use Rattle.cil_attrs.proofs.plain.+plain.Given as goal

abbrev pub invariant-are_plain-loop-part : goal.invariant-are_plain-loop-part
invariant-are_plain-loop-part l = (m : ℕ) → are_plain (all_said m (drop l.part-index l.parts)) ≡ are_plain (all_said m l.parts)
