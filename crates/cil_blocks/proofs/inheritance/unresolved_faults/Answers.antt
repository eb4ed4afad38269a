use Rattle.std.proofs.Common.{ℕ, ◌∙◌, ap}
use Rattle.std.specs.List.{flat_map}
use Rattle.cil_faults.specs.declared.code.FaultCode.TheVariants as causes
use Rattle.cil_syntax.specs.Program.{program_of}
use Rattle.cil_blocks.specs.Entries.{statement_at}
use Rattle.cil_blocks.specs.Reports.{IsUnresolved, target_fault}
use Rattle.cil_blocks.proofs.InheritLemmas.{told_faults}
use Rattle.cil_blocks.proofs.inheritance.unresolved_faults.Goals as goal

pub returns : goal.returns
returns c =
    told_faults (program_of c.args.statements.now) (IsUnresolved (program_of c.args.statements.now)) (target_fault causes.InheritUnresolved) c.in_ok-numbers.numbers.items c.in_ok-faults.faults.items c.of.result
    c.in_ok-numbers.ensures
    (c.in_ok-faults.ensures ∙ ap (λ numbers. flat_map (λ (i : ℕ). (target_fault causes.InheritUnresolved) (statement_at (program_of c.args.statements.now) i)) numbers) c.as_slice.ensures.value)
    c.of.ensures.faults c.of.ensures.none
