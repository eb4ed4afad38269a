use Rattle.std.proofs.Common.{◌≡◌, None, get_or, sym, ◌∙◌, ap}
use Rattle.cil_syntax.specs.Said.{all_said}
use Rattle.cil_mls.specs.Values.{held_between, meant_held}
use Rattle.cil_mls.proofs.ValueLemmas.{no_span, span_is}
use Rattle.cil_mls.proofs.expression.span.Goals as goal

pub returns-then-not-are_two_words : goal.returns-then-not-are_two_words
returns-then-not-are_two_words c = λ m g more e k l.
    c.none.ensures k ∙ sym (no_span c.args.by.now.held.now g k (all_said m c.args.parts.now) (c.if-not-are_two_words.ensures m))

pub returns : goal.returns
returns c = λ m g more e k l.
    let helds = c.args.by.now.held.now in
    let low : c.meant_held-low.result ≡ meant_held helds (get_or c.args.words.now 0 None) = c.meant_held-low.ensures ∙ ap (meant_held helds) c.meaning_at.ensures in
    let high : c.meant_held-high.result ≡ meant_held helds (get_or c.args.words.now 1 None) = c.meant_held-high.ensures ∙ ap (meant_held helds) c.meaning_at-2.ensures in
    c.between_held.ensures k l ∙ (λ j. held_between (low j) (high j) k) ∙ span_is helds g k (all_said m c.args.parts.now) c.args.words.now more (c.if-not-are_two_words.ensures m) e
