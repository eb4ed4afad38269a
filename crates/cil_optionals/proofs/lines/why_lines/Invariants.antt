use Rattle.std.proofs.Common.{take}
use Rattle.cil_macros.specs.Items.{items_in}
use Rattle.cil_optionals.specs.Lines.{AreReasonsOf}
use Rattle.cil_optionals.proofs.lines.why_lines.Given as goal

abbrev pub invariant-loop-reason : goal.invariant-loop-reason
invariant-loop-reason l = AreReasonsOf (items_in l.instances) (take l.reason-index l.reasons) l.lines.items
