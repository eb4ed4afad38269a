use Rattle.cil_names.proofs.ResolvesLemmas.{resolves_by}
use Rattle.cil_names.proofs.laws.resolves_by_candidates.Goals as goal

pub returns : goal.returns
returns c = resolves_by
