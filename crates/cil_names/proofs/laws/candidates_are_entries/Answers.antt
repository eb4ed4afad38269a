use Rattle.cil_names.proofs.ResolvesLemmas.{are_entries}
use Rattle.cil_names.proofs.laws.candidates_are_entries.Goals as goal

pub returns : goal.returns
returns c = are_entries
