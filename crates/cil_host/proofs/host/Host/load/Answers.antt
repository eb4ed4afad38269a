use Rattle.std.proofs.Common.{refl, sym}
use Rattle.cil_host.proofs.StateLemmas.{loads, no_load}
use Rattle.cil_host.proofs.host.Host.load.Goals as goal

pub returns : goal.returns
returns g c = loads _ _ _ c.defaults-self-inside.result _ (sym c.self.view_is) _ c.in_ok-policy.policy c.in_ok-policy.loaded refl c.in_ok-policy.ensures.ok c.defaults-self-inside.ensures
