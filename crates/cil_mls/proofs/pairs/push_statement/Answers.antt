use Rattle.std.proofs.Common.{true, false, sym, ap, ◌∙◌, ◌≡◌}
use Rattle.std.proofs.lemmas.Bool.{true≢false}
use Rattle.cil_syntax.specs.Said.{all_said, args_of}
use Rattle.cil_attrs.specs.macros.Items.{item_at, may_say_lists, says_as_written, word_at}
use Rattle.cil_attrs.proofs.macros_lemmas.ItemsThere.{keyword_there, named_there}
use Rattle.cil_attrs.specs.names.Resolves.{is_mapping}
use Rattle.cil_mls.specs.Pairs.{IsPairBy, are_word_list}
use Rattle.cil_mls.proofs.PairLemmas.{lead_as, next_by, no_more}
use Rattle.cil_mls.proofs.WordListLemmas.{list_back, list_replaced, list_there}
use Rattle.cil_mls.proofs.pairs.push_statement.Goals as goal

pub returns-then-not-same_keyword : goal.returns-then-not-same_keyword
returns-then-not-same_keyword c =
    let i = c.args.instances.now in
    let there = keyword_there i c.args.at c.statement_there-statement.result.now c.statement_there-statement.ensures.is in
    no_more _ (IsPairBy c.args.known.now c.args.standing.now c.args.keyword (item_at i c.args.at))
    (λ a b p. true≢false (sym (c.same_keyword.ensures.1 (sym there ∙ p.orders)) ∙ c.if-not-same_keyword.true))

pub returns-then-not-is_enabled : goal.returns-then-not-is_enabled
returns-then-not-is_enabled c =
    no_more _ (IsPairBy c.args.known.now c.args.standing.now c.args.keyword (item_at c.args.instances.now c.args.at))
    (λ a b p. true≢false (sym p.enabled ∙ sym c.is_enabled.ensures ∙ c.if-not-is_enabled.true))

pub returns-then-not-lists_words : goal.returns-then-not-lists_words
returns-then-not-lists_words c =
    let i = c.args.instances.now in
    let s = c.statement_there-statement.result.now in
    let x = item_at i c.args.at in
    let same = c.same_keyword.ensures.0 c.if-not-same_keyword.false in
    let says = named_there i c.args.at s c.statement_there-statement.ensures.is (ap may_say_lists same ∙ c.requires.named) (ap says_as_written same ∙ c.requires.written) in
    let tested = c.lists_words.ensures s.at.«module» ∙ ap (λ ts. are_word_list (all_said s.at.«module» ts)) c.as_slice.ensures.value in
    let none : are_word_list x.args ≡ false = ap are_word_list says ∙ list_replaced (λ at. at) (word_at i c.args.at) (args_of s) ∙ sym tested ∙ c.if-not-lists_words.true in
    no_more _ (IsPairBy c.args.known.now c.args.standing.now c.args.keyword x) (λ a b p. true≢false (sym (list_back x.args p.words p.says) ∙ none))

pub returns : goal.returns
returns c =
    let i = c.args.instances.now in
    let k = c.args.known.now in
    let s = c.statement_there-statement.result.now in
    let x = item_at i c.args.at in
    let same = c.same_keyword.ensures.0 c.if-not-same_keyword.false in
    let there = keyword_there i c.args.at s c.statement_there-statement.ensures.is in
    let says = named_there i c.args.at s c.statement_there-statement.ensures.is (ap may_say_lists same ∙ c.requires.named) (ap says_as_written same ∙ c.requires.written) in
    let tested = c.lists_words.ensures s.at.«module» ∙ ap (λ ts. are_word_list (all_said s.at.«module» ts)) c.as_slice.ensures.value in
    let all : are_word_list x.args ≡ true = ap are_word_list says ∙ list_replaced (λ at. at) (word_at i c.args.at) (args_of s) ∙ sym tested ∙ c.if-not-lists_words.false in
    let (ws, list) = list_there x.args all in
    lead_as _ _ _ (IsPairBy k c.args.standing.now c.args.keyword x)
    (next_by c.args.standing.now c.args.words.now k c.args.keyword x ws c.requires.row (ap is_mapping (there ∙ same) ∙ c.requires.plain) (sym c.is_enabled.ensures ∙ c.if-not-is_enabled.false) (there ∙ same) list)
    c.in_ok-push_neighbours.ensures
