use Rattle.std.proofs.Common.{ℕ, sym, ◌∙◌, ap}
use Rattle.std.specs.List.{flat_map}
use Rattle.cil_syntax.specs.Program.{program_of}
use Rattle.cil_blocks.specs.Entries.{statement_at}
use Rattle.cil_blocks.specs.InheritFaults.{IsDoubled}
use Rattle.cil_blocks.specs.Reports.{name_fault}
use Rattle.cil_blocks.proofs.InheritLemmas.{told_faults, to_length}
use Rattle.cil_blocks.proofs.ProgramLemmas.{program_length}
use Rattle.cil_blocks.proofs.inheritance.doubled_faults.Goals as goal

pub returns : goal.returns
returns c =
    told_faults (program_of c.args.statements.now) (IsDoubled (program_of c.args.statements.now)) name_fault c.in_ok-numbers.numbers.items c.in_ok-faults.faults.items c.of.result
    (to_length (program_of c.args.statements.now) (IsDoubled (program_of c.args.statements.now)) _ c.in_ok-numbers.numbers.items (sym (program_length c.args.statements.now)) c.in_ok-numbers.ensures)
    (c.in_ok-faults.ensures ∙ ap (λ numbers. flat_map (λ (i : ℕ). name_fault (statement_at (program_of c.args.statements.now) i)) numbers) c.as_slice.ensures.value)
    c.of.ensures.faults c.of.ensures.none
