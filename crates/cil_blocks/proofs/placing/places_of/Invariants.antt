use Rattle.std.proofs.Common.{take}
use Rattle.cil_syntax.specs.Program.{program_of}
use Rattle.cil_blocks.specs.Placing.{AreFirstReached}
use Rattle.cil_blocks.specs.WrittenSpaces.{AreWritten}
use Rattle.cil_blocks.proofs.placing.places_of.Given as goal

abbrev pub invariant-loop-rank : goal.invariant-loop-rank
invariant-loop-rank l = record {
  first : AreFirstReached (program_of l.statements) (take l.rank l.entries) l.spaces.namespaces l.places;
  written : AreWritten (program_of l.statements) l.spaces;
}
