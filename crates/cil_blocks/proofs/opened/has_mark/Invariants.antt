use Rattle.std.proofs.Common.{◌≡◌, drop}
use Rattle.std.specs.List.{list_any}
use Rattle.cil_syntax.specs.Program.{program_of}
use Rattle.cil_syntax.specs.Written.{is_abstraction}
use Rattle.cil_blocks.specs.Entries.{statement_at}
use Rattle.cil_blocks.proofs.opened.has_mark.Given as goal

abbrev pub invariant-loop-number : goal.invariant-loop-number
invariant-loop-number l =
    list_any (λ k. is_abstraction (statement_at (program_of l.statements) k).statement.keyword) l.numbers
    ≡ list_any (λ k. is_abstraction (statement_at (program_of l.statements) k).statement.keyword) (drop l.number-index l.numbers)
