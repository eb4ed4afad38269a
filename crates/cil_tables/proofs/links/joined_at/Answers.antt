use Rattle.std.proofs.Common.{ap, map, subst, sym, ◌∙◌}
use Rattle.std.specs.Ordering.{nat_cmp}
use Rattle.std.proofs.lemmas.Bool.{true≢false}
use Rattle.cil_base.specs.Lists.{Lists}
use Rattle.cil_syntax.specs.Said.{args_of}
use Rattle.cil_macros.specs.Items.{item_at, may_say_lists, says_as_written, word_at}
use Rattle.cil_macros.proofs.ItemsThere.{keyword_there, named_there}
use Rattle.cil_known.specs.Known.{HasNumberFor, enabled_in, meant_in, set_meant, value_in}
use Rattle.cil_names.specs.Resolves.{is_mapping}
use Rattle.cil_names.proofs.ReadingLemmas.{plain_said}
use Rattle.cil_tables.proofs.LinkLemmas.{first_means, joins_all, left_out, no_held, no_holder, other_keyword, other_terms, second_means}
use Rattle.cil_tables.proofs.links.joined_at.Goals as goal

pub returns-then-not-same_keyword : goal.returns-then-not-same_keyword
returns-then-not-same_keyword c = λ xs names known some others are.
    let there = keyword_there c.args.instances.now c.args.at c.statement_there-statement.result.now c.statement_there-statement.ensures.is in
    other_keyword xs c.args.known.now _ _ _ _ _ (item_at c.args.instances.now c.args.at) (λ e. true≢false (sym (c.same_keyword.ensures.1 (sym there ∙ e)) ∙ c.if-not-same_keyword.true))

pub returns-then-not-is_enabled : goal.returns-then-not-is_enabled
returns-then-not-is_enabled c = λ xs names known some others are.
    left_out xs c.args.known.now _ _ _ _ _ (item_at c.args.instances.now c.args.at) (sym c.is_enabled.ensures ∙ c.if-not-is_enabled.true)

pub returns-in_err-_words : goal.returns-in_err-_words
returns-in_err-_words c =
    rw c.from_residual.ensures
    (λ xs names known some others are.
    let i = c.args.instances.now in
    let s = c.statement_there-statement.result.now in
    let says = named_there i c.args.at s c.statement_there-statement.ensures.is (ap may_say_lists (c.same_keyword.ensures.0 c.if-not-same_keyword.false) ∙ c.requires.named) (ap says_as_written (c.same_keyword.ensures.0 c.if-not-same_keyword.false) ∙ c.requires.written) in
    other_terms xs c.args.known.now _ _ _ _ _ (item_at i c.args.at) (word_at i c.args.at) (args_of s) says c.in_err-_words.ensures)

pub returns-in_err-first : goal.returns-in_err-first
returns-in_err-first c =
    rw c.from_residual-in_err-first.ensures
    (λ xs names known some others row.
    let k = c.args.known.now in
    let i = c.args.instances.now in
    let s = c.statement_there-statement.result.now in
    let x = item_at i c.args.at in
    let f = word_at i c.args.at in
    let j = c.args.joins in
    let says = named_there i c.args.at s c.statement_there-statement.ensures.is (ap may_say_lists (c.same_keyword.ensures.0 c.if-not-same_keyword.false) ∙ c.requires.named) (ap says_as_written (c.same_keyword.ensures.0 c.if-not-same_keyword.false) ∙ c.requires.written) in
    let are = row ∙ ap (map (value_in k)) (plain_said x.keyword x.args (ap is_mapping (keyword_there i c.args.at s c.statement_there-statement.ensures.is ∙ c.same_keyword.ensures.0 c.if-not-same_keyword.false) ∙ c.requires.plain)) in
    let first = c.in_ok-_words._words.first in
    let second = c.in_ok-_words._words.second in
    no_holder xs k j.keyword j.holder_kind j.held_kind (names j.holder_kind) (names j.held_kind) x f (args_of s) says first second c.in_ok-_words.ensures (set_meant c.args.holders.now c.meaning_at.result)
    (set_meant c.args.helds.now (meant_in k (f second)))
    (subst (λ r. Lists nat_cmp (HasNumberFor xs (enabled_in k) j.holder_kind (names j.holder_kind) (f first)) (set_meant c.args.holders.now r))
    (sym (first_means xs k j.keyword j.holder_kind j.held_kind (names j.holder_kind) (names j.held_kind) x f (args_of s) says first second c.in_ok-_words.ensures c.args.words.now are c.meaning_at.result c.meaning_at.ensures))
    (some (f first)))
    (others (f second)) c.in_err-first.ensures)

pub returns-in_err-second : goal.returns-in_err-second
returns-in_err-second c =
    rw c.from_residual-in_err-second.ensures
    (λ xs names known some others row.
    let k = c.args.known.now in
    let i = c.args.instances.now in
    let s = c.statement_there-statement.result.now in
    let x = item_at i c.args.at in
    let f = word_at i c.args.at in
    let j = c.args.joins in
    let says = named_there i c.args.at s c.statement_there-statement.ensures.is (ap may_say_lists (c.same_keyword.ensures.0 c.if-not-same_keyword.false) ∙ c.requires.named) (ap says_as_written (c.same_keyword.ensures.0 c.if-not-same_keyword.false) ∙ c.requires.written) in
    let are = row ∙ ap (map (value_in k)) (plain_said x.keyword x.args (ap is_mapping (keyword_there i c.args.at s c.statement_there-statement.ensures.is ∙ c.same_keyword.ensures.0 c.if-not-same_keyword.false) ∙ c.requires.plain)) in
    let first = c.in_ok-_words._words.first in
    let second = c.in_ok-_words._words.second in
    no_held xs k j.keyword j.holder_kind j.held_kind (names j.holder_kind) (names j.held_kind) x f (args_of s) says first second c.in_ok-_words.ensures (set_meant c.args.holders.now (meant_in k (f first)))
    (set_meant c.args.helds.now c.meaning_at-2.result) (some (f first))
    (subst (λ r. Lists nat_cmp (HasNumberFor xs (enabled_in k) j.held_kind (names j.held_kind) (f second)) (set_meant c.args.helds.now r))
    (sym (second_means xs k j.keyword j.holder_kind j.held_kind (names j.holder_kind) (names j.held_kind) x f (args_of s) says first second c.in_ok-_words.ensures c.args.words.now are c.meaning_at-2.result c.meaning_at-2.ensures))
    (others (f second)))
    c.in_err-second.ensures)

pub returns : goal.returns
returns c =
    λ xs names known some others row.
    let k = c.args.known.now in
    let i = c.args.instances.now in
    let s = c.statement_there-statement.result.now in
    let x = item_at i c.args.at in
    let f = word_at i c.args.at in
    let j = c.args.joins in
    let is = c.same_keyword.ensures.0 c.if-not-same_keyword.false in
    let says = named_there i c.args.at s c.statement_there-statement.ensures.is (ap may_say_lists is ∙ c.requires.named) (ap says_as_written is ∙ c.requires.written) in
    let are = row ∙ ap (map (value_in k)) (plain_said x.keyword x.args (ap is_mapping (keyword_there i c.args.at s c.statement_there-statement.ensures.is ∙ c.same_keyword.ensures.0 c.if-not-same_keyword.false) ∙ c.requires.plain)) in
    let first = c.in_ok-_words._words.first in
    let second = c.in_ok-_words._words.second in
    joins_all xs k j.keyword j.holder_kind j.held_kind (names j.holder_kind) (names j.held_kind) x f (args_of s) says first second c.in_ok-_words.ensures c.in_ok-first.first.now c.in_ok-second.second.now
    (subst (Lists nat_cmp (HasNumberFor xs (enabled_in k) j.holder_kind (names j.holder_kind) (f first))) (sym c.in_ok-first.ensures)
    (subst (λ r. Lists nat_cmp (HasNumberFor xs (enabled_in k) j.holder_kind (names j.holder_kind) (f first)) (set_meant c.args.holders.now r))
    (sym (first_means xs k j.keyword j.holder_kind j.held_kind (names j.holder_kind) (names j.held_kind) x f (args_of s) says first second c.in_ok-_words.ensures c.args.words.now are c.meaning_at.result c.meaning_at.ensures))
    (some (f first))))
    (subst (Lists nat_cmp (HasNumberFor xs (enabled_in k) j.held_kind (names j.held_kind) (f second))) (sym c.in_ok-second.ensures)
    (subst (λ r. Lists nat_cmp (HasNumberFor xs (enabled_in k) j.held_kind (names j.held_kind) (f second)) (set_meant c.args.helds.now r))
    (sym (second_means xs k j.keyword j.holder_kind j.held_kind (names j.holder_kind) (names j.held_kind) x f (args_of s) says first second c.in_ok-_words.ensures c.args.words.now are c.meaning_at-2.result c.meaning_at-2.ensures))
    (others (f second))))
    (keyword_there i c.args.at s c.statement_there-statement.ensures.is ∙ is) (sym c.is_enabled.ensures ∙ c.if-not-is_enabled.false)
