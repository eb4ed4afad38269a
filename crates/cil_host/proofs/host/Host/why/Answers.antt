use Rattle.std.proofs.Common.{◌∙◌, sym}
use Rattle.cil_host.specs.Machine.{AreWhyLines}
use Rattle.cil_host.proofs.QueryLemmas.{accepted_fact, kept, why_lines}
use Rattle.cil_host.proofs.host.Host.why.Goals as goal

pub returns : goal.returns
returns g c =
    accepted_fact _ _ _ _ _ (sym c.self.view_is) c.in-Some.is (AreWhyLines _)
    (why_lines _ c.in-Some.policy (kept _ _ c.in-Some.is c.self.invariant.kept) _ (c.in_ok-lines.ensures ∙ c.as_slice.ensures.value))
