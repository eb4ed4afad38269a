use Rattle.std.proofs.Common.{take}
use Rattle.cil_syntax.specs.Program.{program_of}
use Rattle.cil_blocks.specs.Doubled.{AreThose}
use Rattle.cil_blocks.specs.Seeds.{IsPaired, own_name}
use Rattle.cil_blocks.proofs.seeds.pairs_among.Given as goal

abbrev pub invariant-loop-number : goal.invariant-loop-number
invariant-loop-number l = AreThose (IsPaired (own_name (program_of l.statements)) (take l.number-index l.ones) l.others) l.pairs.items
