use Rattle.cil_names.proofs.AnswerLemmas.{answer_is}
use Rattle.cil_names.proofs.laws.means_what_it_names.Goals as goal

pub returns : goal.returns
returns c = λ ss xs es s w namespaces entries. answer_is ss namespaces xs es entries s w
