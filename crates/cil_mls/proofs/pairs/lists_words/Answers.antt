use Rattle.std.proofs.Common.{sym, ◌∙◌, ap}
use Rattle.cil_mls.specs.Pairs.{are_word_list}
use Rattle.cil_mls.proofs.WordListLemmas.{not_one}
use Rattle.cil_mls.proofs.pairs.lists_words.Goals as goal

pub returns-in_default : goal.returns-in_default
returns-in_default c m = sym (not_one m c.args.terms.now (c.in_default.ensures m))

pub returns : goal.returns
returns c m = c.is_word_list.ensures m ∙ sym (ap are_word_list (c.in-Some.ensures m))
