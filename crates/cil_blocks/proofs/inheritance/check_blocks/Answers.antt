use Rattle.std.proofs.Common.{subst}
use Rattle.cil_syntax.specs.Program.{program_of}
use Rattle.cil_blocks.specs.InheritFaults.{InheritFault}
use Rattle.cil_blocks.specs.Reports.{AreAllFaults}
use Rattle.cil_blocks.proofs.InheritLemmas.{all_checked}
use Rattle.cil_blocks.proofs.inheritance.check_blocks.Goals as goal

pub returns-in-None : goal.returns-in-None
returns-in-None c = (
  tt,
  subst (AreAllFaults (InheritFault (program_of c.args.statements.now))) c.in-None.is
      (all_checked (program_of c.args.statements.now) c.cycle.ensures c.in_ok-doubled.doubled c.in_ok-unresolved.unresolved c.in_ok-cyclic.cyclic c.in_ok-both.field-0
      c.in_ok-faults.faults c.in_ok-doubled.ensures c.in_ok-unresolved.ensures c.in_ok-cyclic.ensures c.in_ok-both.ensures c.in_ok-faults.ensures),
)

pub returns-in-Some : goal.returns-in-Some
returns-in-Some c =
    subst (AreAllFaults (InheritFault (program_of c.args.statements.now))) c.in-Some.is
    (all_checked (program_of c.args.statements.now) c.cycle.ensures c.in_ok-doubled.doubled c.in_ok-unresolved.unresolved c.in_ok-cyclic.cyclic c.in_ok-both.field-0
    c.in_ok-faults.faults c.in_ok-doubled.ensures c.in_ok-unresolved.ensures c.in_ok-cyclic.ensures c.in_ok-both.ensures c.in_ok-faults.ensures)
