use Rattle.std.proofs.Common.{ap, sym, ◌∙◌}
use Rattle.std.proofs.lemmas.List.{take_all}
use Rattle.cil_base.specs.Among.{among}
use Rattle.cil_label_bytes.specs.Sets.{words_of}
use Rattle.cil_label_bytes.proofs.SetLemmas.{are_words, has_among, same_sets}
use Rattle.cil_label_bytes.proofs.sets.words_of.Goals as goal

pub returns : goal.returns
returns c =
    let numbers = c.args.numbers.now in
    same_sets c.loop-number.set (words_of numbers) c.are_words.ensures (are_words (among numbers))
    (λ d l. c.loop-number.invariant d l ∙ ap (λ xs. among xs d) (take_all c.loop-number.number-index numbers c.loop-number-test.false) ∙ sym (has_among numbers d l))
