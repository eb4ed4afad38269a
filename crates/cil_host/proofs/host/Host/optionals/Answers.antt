use Rattle.std.proofs.Common.{◌∙◌, sym}
use Rattle.cil_host.specs.Machine.{AreOptionalLines}
use Rattle.cil_host.proofs.QueryLemmas.{kept, loaded_fact, optional_lines}
use Rattle.cil_host.proofs.host.Host.optionals.Goals as goal

pub returns : goal.returns
returns g c =
    loaded_fact _ _ _ _ _ (sym c.self.view_is) c.in-Some.is (AreOptionalLines _)
    (optional_lines c.in-Some.loaded (kept _ _ c.in-Some.is c.self.invariant.kept) _ (c.in_ok-lines.ensures ∙ c.as_slice.ensures.value))
