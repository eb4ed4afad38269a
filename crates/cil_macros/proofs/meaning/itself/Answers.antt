use Rattle.std.proofs.Common.{ap}
use Rattle.cil_macros.specs.Meant.{meant_term}
use Rattle.cil_macros.proofs.BodyMeaning.{same_word}
use Rattle.cil_macros.proofs.meaning.itself.Goals as goal

pub returns-clause-says : goal.returns-clause-says
returns-clause-says c = λ ps sign. ap (meant_term ps sign) (same_word c.args.word.now c.args.scope c.word.result _ c.word.ensures c.as_slice.ensures)
