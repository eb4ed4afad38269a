use Rattle.std.proofs.Common.{take}
use Rattle.cil_syntax.specs.Program.{program_of}
use Rattle.cil_blocks.specs.Doubled.{AreKept}
use Rattle.cil_blocks.specs.Seeds.{IsOpen}
use Rattle.cil_blocks.proofs.reach.open_among.Given as goal

abbrev pub invariant-loop-number : goal.invariant-loop-number
invariant-loop-number l = AreKept (IsOpen (program_of l.statements)) (take l.number-index l.numbers) l.found.items
