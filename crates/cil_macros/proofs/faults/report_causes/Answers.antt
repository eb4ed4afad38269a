use Rattle.cil_blocks.specs.Namespaces.{space_at}
use Rattle.cil_macros.proofs.FaultLemmas.{causes_told}
use Rattle.cil_macros.proofs.faults.report_causes.Goals as goal

pub returns : goal.returns
returns c =
    causes_told c.args.wrong c.args.faults.now.items c.report_if.new.faults.items c.report_if-2.new.faults.items c.report_if-3.new.faults.items
    (space_at c.args.site.now.namespaces.now c.args.site.now.space) c.args.site.now.word.now c.in_ok-report_if.ensures c.in_ok-report_if-2.ensures c.in_ok-report_if-3.ensures
