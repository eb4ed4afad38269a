use Rattle.cil_mls.specs.Names.{IsNamed}
use Rattle.cil_mls.proofs.SameLemmas.{one_level_of}
use Rattle.cil_mls.proofs.NameLemmas.{named_once}
use Rattle.cil_mls.proofs.laws.one_level.Goals as goal

pub returns : goal.returns
returns c = λ ns known text a b is too.
    one_level_of (IsNamed ns.sensitivities) (IsNamed ns.categories) (named_once ns.sensitivities known.rising) text a b is too
