use Rattle.std.proofs.Common.{subst}
use Rattle.cil_attrs.specs.Plain.{ArePlain}
use Rattle.cil_attrs.proofs.checked.plain_givens.Goals as goal

pub returns-clause-plain : goal.returns-clause-plain
returns-clause-plain c = subst ArePlain c.as_slice.ensures.value (c.all_plain.ensures c.if-not-all_plain.false)
