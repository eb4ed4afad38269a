use Rattle.cil_classes.specs.known.Known.{enabled_in}
use Rattle.cil_constraints.proofs.TruthLemmas.{known_apart, truth_tells}
use Rattle.cil_constraints.proofs.laws.truth_by_numbers.Goals as goal

pub returns : goal.returns
returns c = λ k xs names known apart a b n m sa sb d e of. truth_tells xs (enabled_in k) names (known_apart k xs names known apart) a b n m sa sb d e of
