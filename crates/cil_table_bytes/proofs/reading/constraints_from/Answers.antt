use Rattle.std.proofs.Common.{subst}
use Rattle.cil_format.specs.Takes.{Takes}
use Rattle.cil_constraint_bytes.specs.Layout.{Limits, constraints}
use Rattle.cil_table_bytes.proofs.reading.constraints_from.Goals as goal

pub returns : goal.returns
returns c = subst (λ (l : Limits). Takes (λ x. (x.0.items, x.1.now)) c.constraints_at.result ((constraints l).read c.args.bytes.now)) c.constraint_bounds-bounds.ensures c.constraints_at.ensures
