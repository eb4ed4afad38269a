use Rattle.std.proofs.Common.{sym}
use Rattle.cil_ranges.proofs.ReadLemmas.{no_word_in_front, nothing_in_front, word_in_front}
use Rattle.cil_ranges.proofs.level.behind_word.Goals as goal

pub returns-in-empty : goal.returns-in-empty
returns-in-empty c = λ f m us same. nothing_in_front f m c.args.terms.now us same c.in-empty.len_below

pub returns-then-not-is_word : goal.returns-then-not-is_word
returns-then-not-is_word c = λ f m us same. no_word_in_front f m c.args.terms.now us same c.first-item.result c.in-len1-up.len_at_least c.first-item.is (sym (c.if-not-is_word.ensures m))

pub returns-else-not-is_word : goal.returns-else-not-is_word
returns-else-not-is_word c = λ f m us same.
    word_in_front f m c.args.terms.now us same c.first-item.result c.in-len1-up.len_at_least c.first-item.is (sym (c.if-not-is_word.ensures m)) c.behind_one.result.now c.behind_one.ensures
