use Rattle.std.proofs.Common.{ℕ, ◌∙◌, ap}
use Rattle.std.specs.List.{flat_map}
use Rattle.cil_faults.specs.declared.code.FaultCode.TheVariants as causes
use Rattle.cil_syntax.specs.Program.{program_of}
use Rattle.cil_blocks.specs.Entries.{statement_at}
use Rattle.cil_blocks.specs.Reports.{IsCyclic, target_fault}
use Rattle.cil_blocks.proofs.InheritLemmas.{cyclic_so, told_faults}
use Rattle.cil_blocks.proofs.inheritance.cycle_faults.Goals as goal

pub returns : goal.returns
returns c =
    told_faults (program_of c.args.statements.now) (IsCyclic (program_of c.args.statements.now)) (target_fault causes.InheritCycle) c.in_ok-numbers.numbers.items c.in_ok-faults.faults.items c.of.result
    (cyclic_so (program_of c.args.statements.now) c.in_ok-numbers.numbers.items c.in_ok-numbers.ensures)
    (c.in_ok-faults.ensures ∙ ap (λ numbers. flat_map (λ (i : ℕ). (target_fault causes.InheritCycle) (statement_at (program_of c.args.statements.now) i)) numbers) c.as_slice.ensures.value)
    c.of.ensures.faults c.of.ensures.none
