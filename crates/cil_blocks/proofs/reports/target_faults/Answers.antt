use Rattle.std.proofs.Common.{ℕ, get_or, refl}
use Rattle.cil_base.specs.MadeLists.{all_flat, one_flat}
use Rattle.cil_syntax.specs.Program.{program_of}
use Rattle.cil_blocks.specs.Entries.{statement_at}
use Rattle.cil_blocks.specs.Reports.{target_fault}
use Rattle.cil_blocks.proofs.reports.target_faults.Goals as goal

pub loop-number-preserved : goal.loop-number-preserved
loop-number-preserved c =
    one_flat (λ (i : ℕ). target_fault c.args.code (statement_at (program_of c.args.statements.now) i)) c.args.numbers.now c.loop-number.number-index
    (get_or c.args.numbers.now c.loop-number.number-index 0) 0 c.loop-number.faults.items c.report_target.new.faults.items c.loop-number-test.true refl c.loop-number.invariant
    c.in_ok-report_target.ensures

pub returns : goal.returns
returns c =
    all_flat (λ (i : ℕ). target_fault c.args.code (statement_at (program_of c.args.statements.now) i)) c.args.numbers.now c.loop-number.number-index c.loop-number.faults.items
    c.loop-number-test.false c.loop-number.invariant
