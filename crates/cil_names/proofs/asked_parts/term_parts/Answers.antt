use Rattle.cil_names.proofs.AskedPartLemmas.{opens_term}
use Rattle.cil_names.proofs.asked_parts.term_parts.Goals as goal

pub returns-in-Opens-clause-parts : goal.returns-in-Opens-clause-parts
returns-in-Opens-clause-parts c = λ ps.
    opens_term ps c.args.parts.now _ _ c.in-Some.ensures c.in-Opens.field-0 c.in-Opens.field-1 c.inside.result c.in-Opens.is (c.inside.ensures.inside ps)
