use Rattle.std.proofs.Common.{◌-◌, ◌^◌}
use Rattle.std.specs.Prelude.{None}
use Rattle.cil_syntax.specs.Program.{program_of}
use Rattle.cil_blocks.specs.Doubled.{AreThose}
use Rattle.cil_blocks.specs.Seeds.{IsDoubledBy, IsNext}
use Rattle.cil_blocks.proofs.CoverLemmas.{AreReachedBefore}
use Rattle.cil_blocks.proofs.Reached.{AreSoFar, IsToldBy}
use Rattle.cil_blocks.proofs.seeds.tell_all.Given as goal

abbrev pub invariant-loop-at : goal.invariant-loop-at
invariant-loop-at l = record {
  so : AreSoFar (IsNext (program_of l.statements) l.parts l.targets) (None, None) l.at l.pairs.keys;
  told : AreThose (IsToldBy (IsNext (program_of l.statements) l.parts l.targets) (None, None) (IsDoubledBy (program_of l.statements) l.parts l.targets) l.at l.pairs.keys) l.found.items;
  covered : AreReachedBefore l.parts l.targets l.at l.pairs.keys l.covered.keys;
}

-- a set has fewer members than there are places in memory
abbrev pub decreases-loop-at : goal.decreases-loop-at
decreases-loop-at l = 2 ^ 63 - l.at
