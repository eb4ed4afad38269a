use Rattle.cil_names.proofs.PermissionWordLemmas.{wanted_means}
use Rattle.cil_names.proofs.laws.wanted_means_what_it_names.Goals as goal

pub returns : goal.returns
returns c = wanted_means
