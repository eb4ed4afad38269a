use Rattle.std.proofs.Common.{◌≡◌, ◌<◌, ◌↔◌, ℕ, true}
use Rattle.std.specs.Prelude.{Contains}
use Rattle.cil_syntax.specs.Program.{program_of}
use Rattle.cil_blocks.specs.Contents.{is_block}
use Rattle.cil_blocks.specs.Entries.{statement_at}
use Rattle.cil_blocks.proofs.targets.block_numbers.Given as goal

abbrev pub invariant-loop-i : goal.invariant-loop-i
invariant-loop-i l =
    (b : ℕ) → Contains l.blocks.items b ↔ ((b < l.i) × (is_block (statement_at (program_of l.statements) b).statement.keyword ≡ true))
