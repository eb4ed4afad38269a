use Rattle.std.proofs.Common.{sym, ◌∙◌, ◌&&◌, ap}
use Rattle.cil_syntax.specs.Said.{all_said}
use Rattle.cil_mls.specs.Pairs.{are_words}
use Rattle.cil_mls.proofs.WordListLemmas.{form_is}
use Rattle.cil_mls.proofs.pairs.is_word_list.Goals as goal

pub returns-else-not-is_listed : goal.returns-else-not-is_listed
returns-else-not-is_listed c m =
    c.are_words.ensures m ∙ ap (λ ts. are_words (all_said m ts)) c.as_slice.ensures.value
    ∙ sym ((form_is m c.args.term.now _ _ _ c.in-Form.is).1 ∙ ap (λ b. b && are_words (all_said m c.in-Form.parts.items)) (sym c.is_listed.ensures ∙ c.if-not-is_listed.false))
