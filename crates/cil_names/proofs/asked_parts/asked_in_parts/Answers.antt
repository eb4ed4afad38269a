use Rattle.cil_names.specs.Asked.{wanted_by}
use Rattle.cil_names.proofs.AskedLemmas.{asked_from}
use Rattle.cil_names.proofs.asked_parts.asked_in_parts.Goals as goal

pub returns : goal.returns
returns c = λ ps ts same. asked_from (wanted_by ps) _ _ _ c.new-asked.ensures.items (c.in_ok-ask_said.ensures ps ts same)
