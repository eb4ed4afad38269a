use Rattle.cil_macros.proofs.WordsOfTexts.{words_of_texts}
use Rattle.cil_macros.proofs.laws.words_of_texts.Goals as goal

pub returns : goal.returns
returns c = words_of_texts
