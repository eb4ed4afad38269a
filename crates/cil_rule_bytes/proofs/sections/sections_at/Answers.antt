use Rattle.std.proofs.Common.{arith}
use Rattle.cil_rule_bytes.specs.Bounds.{limits_of}
use Rattle.cil_rule_bytes.specs.Sections.{sections_read}
use Rattle.cil_rule_bytes.proofs.SectionLemmas.{rising_read}
use Rattle.cil_rule_bytes.proofs.sections.sections_at.Goals as goal

pub decided_by-requires : goal.decided_by-requires
decided_by-requires c =
    rising_read (limits_of c.args.bounds.now) c.args.bytes.now c.in_ok-read.rest.now (sections_read c.in_ok-read.read) (λ i. omega (arith, c.type_inv.bytes i)) c.in_ok-read.ensures
