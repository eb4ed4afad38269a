use Rattle.std.specs.Prelude.{option_map}
use Rattle.std.proofs.Common.{◌≡◌, true, map, sym, ◌∙◌, ap}
use Rattle.std.proofs.lemmas.Bool.{true≢false}
use Rattle.std.proofs.lemmas.Option.{slice_get-map}
use Rattle.cil_syntax.specs.Said.{all_said, args_of}
use Rattle.cil_macros.specs.Items.{item_at, items_in, says_as_written, word_at}
use Rattle.cil_macros.proofs.ItemLemmas.{item_there}
use Rattle.cil_macros.proofs.ItemsThere.{keyword_there, said_there}
use Rattle.cil_names.specs.Resolves.{is_mapping}
use Rattle.cil_known.specs.Known.{row_in, set_meant}
use Rattle.cil_levels.specs.Permits.{PermitsBy, begins_with_word}
use Rattle.cil_levels.proofs.PermitLemmas.{AtSome, begins_replaced, more_as, none_more, permits_as, permits_none}
use Rattle.cil_levels.proofs.permits.permit_at.Goals as goal

pub returns-then-not-same_keyword : goal.returns-then-not-same_keyword
returns-then-not-same_keyword c =
    let i = c.args.instances.now in
    let there = keyword_there i c.args.at c.statement_there-statement.result.now c.statement_there-statement.ensures.is in
    none_more c.args.sets.now.items (PermitsBy c.args.known.now c.args.standing.now c.args.places.now c.args.by.now.held.now c.args.by.now.count (item_at i c.args.at))
    (λ n b l p. true≢false (sym (c.same_keyword.ensures.1 (sym there ∙ p.permits)) ∙ c.if-not-same_keyword.true))

pub returns-then-not-is_enabled : goal.returns-then-not-is_enabled
returns-then-not-is_enabled c =
    none_more c.args.sets.now.items (PermitsBy c.args.known.now c.args.standing.now c.args.places.now c.args.by.now.held.now c.args.by.now.count (item_at c.args.instances.now c.args.at))
    (λ n b l p. true≢false (sym p.enabled ∙ sym c.is_enabled.ensures ∙ c.if-not-is_enabled.true))

pub second_value-requires-clause-written : goal.second_value-requires-clause-written
second_value-requires-clause-written c =
    let there = keyword_there c.args.instances.now c.args.at c.statement_there-statement.result.now c.statement_there-statement.ensures.is in
    ap says_as_written (there ∙ c.same_keyword.ensures.0 c.if-not-same_keyword.false)

pub second_value-requires-clause-plain : goal.second_value-requires-clause-plain
second_value-requires-clause-plain c =
    let there = keyword_there c.args.instances.now c.args.at c.statement_there-statement.result.now c.statement_there-statement.ensures.is in
    ap is_mapping (there ∙ c.same_keyword.ensures.0 c.if-not-same_keyword.false)

pub returns-then-not-begins_with_word : goal.returns-then-not-begins_with_word
returns-then-not-begins_with_word c =
    let i = c.args.instances.now in
    let at = c.args.at in
    let s = c.statement_there-statement.result.now in
    let is = c.statement_there-statement.ensures.is in
    let same = c.same_keyword.ensures.0 c.if-not-same_keyword.false in
    let says = said_there i at s is c.in_ok-more.ensures.words (ap says_as_written same) in
    let tested = c.begins_with_word.ensures s.at.«module» ∙ ap (λ ts. begins_with_word (all_said s.at.«module» ts)) c.as_slice.ensures.value in
    permits_none c.args.known.now c.args.standing.now c.args.places.now c.args.by.now.held.now c.args.by.now.count (item_at i at) c.args.sets.now.items
    (ap begins_with_word says ∙ begins_replaced (word_at i at) (args_of s) ∙ sym tested ∙ c.if-not-begins_with_word.true)

pub returns : goal.returns
returns c =
    let k = c.args.known.now in
    let i = c.args.instances.now in
    let at = c.args.at in
    let x = item_at i at in
    let s = c.statement_there-statement.result.now in
    let is = c.statement_there-statement.ensures.is in
    let same = c.same_keyword.ensures.0 c.if-not-same_keyword.false in
    let there = keyword_there i at s is in
    let says = said_there i at s is c.in_ok-more.ensures.words (ap says_as_written same) in
    let tested = c.begins_with_word.ensures s.at.«module» ∙ ap (λ ts. begins_with_word (all_said s.at.«module» ts)) c.as_slice.ensures.value in
    let begins : begins_with_word x.args ≡ true = ap begins_with_word says ∙ begins_replaced (word_at i at) (args_of s) ∙ sym tested ∙ c.if-not-begins_with_word.false in
    let row = c.row.ensures (map (row_in k) (items_in i)) (row_in k x) c.requires.table (slice_get-map (row_in k) (items_in i) at ∙ ap (option_map (row_in k)) (item_there i at c.requires.within)) in
    let numbers = c.as_slice-2.ensures.value ∙ c.in_ok-numbers.ensures ∙ ap (set_meant c.args.standing.now) c.meaning_at-word.ensures in
    more_as c.args.sets.now.items c.add_all.new.sets.items (AtSome c.args.places.now c.in_ok-more.more c.as_slice-2.result.now) (PermitsBy k c.args.standing.now c.args.places.now c.args.by.now.held.now c.args.by.now.count x)
    (permits_as k c.args.standing.now c.args.places.now c.args.by.now.held.now c.args.by.now.count x (sym c.is_enabled.ensures ∙ c.if-not-is_enabled.false) (there ∙ same) begins c.row.result.now (row ∙ c.in_ok-more.ensures.row) c.as_slice-2.result.now numbers
    c.in_ok-more.more c.in_ok-more.ensures.value)
    c.add_all.ensures
