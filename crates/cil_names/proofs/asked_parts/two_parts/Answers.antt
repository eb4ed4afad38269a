use Rattle.cil_names.proofs.AskedPartLemmas.{both_terms}
use Rattle.cil_names.proofs.asked_parts.two_parts.Goals as goal

pub returns-clause-parts : goal.returns-clause-parts
returns-clause-parts c = λ ps. both_terms ps c.args.parts.now _ c.term_parts-first.result c.term_parts.result c.behind.ensures (c.term_parts-first.ensures.parts ps) (c.term_parts.ensures.parts ps)
