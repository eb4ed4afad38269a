use Rattle.std.proofs.Common.{◌+◌, ◌<◌, Bool, length}
use Rattle.cil_syntax.specs.Program.{program_of}
use Rattle.cil_blocks.specs.Entries.{standings_of}
use Rattle.cil_macros.proofs.ChainLemmas.{IsCame}
use Rattle.cil_macros.proofs.chain.is_repeated.Given as goal

-- what holds of the place that was reached holds of the first
abbrev pub invariant-loop-body : goal.invariant-loop-body
invariant-loop-body l =
    (l.place < length l.entries + length l.brought.entries.items)
    × ((r : Bool) → IsCame (program_of l.statements) (standings_of (program_of l.statements) l.entries) l.brought.entries.items l.called l.place r
    → IsCame (program_of l.statements) (standings_of (program_of l.statements) l.entries) l.brought.entries.items l.called l.at r)

abbrev pub decreases-loop-body : goal.decreases-loop-body
decreases-loop-body l = l.place
