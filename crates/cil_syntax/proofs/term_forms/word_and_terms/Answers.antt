use Rattle.cil_syntax.proofs.FormLemmas.{no_word_in_front, begins_with_word}
use Rattle.cil_syntax.proofs.term_forms.word_and_terms.Goals as goal

pub returns-in_default : goal.returns-in_default
returns-in_default c = no_word_in_front c.args.«module» c.args.terms.now c.first-item.result c.in-len1-up.len_at_least c.first-item.is c.in_default.ensures

pub returns-in-Some : goal.returns-in-Some
returns-in-Some c = begins_with_word c.args.«module» c.args.terms.now c.first-item.result c.in-len1-up.len_at_least c.first-item.is _ c.in-Some.ensures
