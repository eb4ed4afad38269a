use Rattle.std.proofs.Common.{take}
use Rattle.cil_blocks.specs.Doubled.{AreKept}
use Rattle.cil_blocks.specs.WrittenSpaces.{numbered_name}
use Rattle.cil_blocks.proofs.DoubledLemmas.{HasMatch}
use Rattle.cil_blocks.proofs.doubled.with_others.Given as goal

abbrev pub invariant-loop-number : goal.invariant-loop-number
invariant-loop-number l = AreKept (HasMatch (numbered_name l.statements l.spaces.numbers) l.named) (take l.number-index l.named) l.found.items
