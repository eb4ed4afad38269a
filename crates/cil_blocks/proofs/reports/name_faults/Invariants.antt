use Rattle.std.proofs.Common.{◌≡◌, ℕ, take}
use Rattle.std.specs.List.{flat_map}
use Rattle.cil_syntax.specs.Program.{program_of}
use Rattle.cil_blocks.specs.Entries.{statement_at}
use Rattle.cil_blocks.specs.Reports.{name_fault}
use Rattle.cil_blocks.proofs.reports.name_faults.Given as goal

abbrev pub invariant-loop-number : goal.invariant-loop-number
invariant-loop-number l =
    l.faults.items ≡ flat_map (λ (i : ℕ). name_fault (statement_at (program_of l.statements) i)) (take l.number-index l.numbers)
