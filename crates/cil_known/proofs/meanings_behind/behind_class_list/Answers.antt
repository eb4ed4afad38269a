use Rattle.cil_known.proofs.BehindLemmas.{behind_list, behind_no_list}
use Rattle.cil_known.proofs.meanings_behind.behind_class_list.Goals as goal

pub returns-in_default : goal.returns-in_default
returns-in_default c = λ f. behind_no_list f c.args.«module» c.args.words.now c.args.terms.now c.in_default.ensures

pub returns : goal.returns
returns c = λ f.
    behind_list f c.args.«module» c.args.words.now c.args.terms.now c.in-Some.list.terms.now c.in-Some.list.word _ _ c.in-Some.ensures c.behind_first.ensures (c.behind_words.ensures c.args.«module»)
