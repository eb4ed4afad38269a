use Rattle.std.proofs.Common.{◌∙◌, sym}
use Rattle.cil_levels.proofs.PlaceLemmas.{same_category}
use Rattle.cil_levels.proofs.laws.one_place.Goals as goal

pub returns : goal.returns
returns c = λ k xs row helds hold w a b at bt. same_category a b (sym ((hold w a).0 at) ∙ (hold w b).0 bt)
