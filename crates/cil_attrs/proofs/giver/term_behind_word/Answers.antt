use Rattle.cil_attrs.proofs.GiverLemmas.{term_told}
use Rattle.cil_attrs.proofs.giver.term_behind_word.Goals as goal

pub returns : goal.returns
returns c = term_told c.args.«module» c.args.terms.now c.in_ok-found.found.terms.now c.in_ok-found.found.word c.only.result c.in_ok-found.ensures (c.only.ensures c.args.«module»)
