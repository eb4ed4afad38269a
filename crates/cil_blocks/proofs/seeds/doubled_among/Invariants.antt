use Rattle.std.proofs.Common.{take}
use Rattle.cil_syntax.specs.Program.{program_of}
use Rattle.cil_blocks.specs.Doubled.{AreKept}
use Rattle.cil_blocks.specs.Seeds.{own_name}
use Rattle.cil_blocks.proofs.DoubledLemmas.{HasMatch}
use Rattle.cil_blocks.proofs.seeds.doubled_among.Given as goal

abbrev pub invariant-loop-number : goal.invariant-loop-number
invariant-loop-number l = AreKept (HasMatch (own_name (program_of l.statements)) l.others) (take l.number-index l.ones) l.found.items
