use Rattle.cil_optionals.proofs.KeepLemmas.{resolves_keeps}
use Rattle.cil_optionals.proofs.laws.keeps_resolving.Goals as goal

pub returns : goal.returns
returns c = resolves_keeps
