use Rattle.std.proofs.Common.{sym, ◌∙◌}
use Rattle.std.proofs.lemmas.Bool.{true≢false}
use Rattle.std.proofs.lemmas.Result.{IfOk-from_err}
use Rattle.cil_macros.specs.Items.{item_at, items_in, namespaces_in}
use Rattle.cil_names.specs.Entries.{is_in}
use Rattle.cil_classes.proofs.CommonLemmas.{not_twice, shares_nothing, twice_told, twice_wrong, wide_wrong}
use Rattle.cil_classes.proofs.widths.wrong_at.Goals as goal

pub wide_class-requires-clause-asked : goal.wide_class-requires-clause-asked
wide_class-requires-clause-asked c = c.requires.asked

pub joined_at-requires-clause-entries : goal.joined_at-requires-clause-entries
joined_at-requires-clause-entries c = c.requires.twice.entries

pub joined_at-requires-clause-within : goal.joined_at-requires-clause-within
joined_at-requires-clause-within c = c.requires.within

pub wide_class-requires-clause-within : goal.wide_class-requires-clause-within
wide_class-requires-clause-within c = c.requires.within

pub returns-in-Some : goal.returns-in-Some
returns-in-Some c = wide_wrong c.args.instances.now (is_in c.args.lookup.now.enabled.now) c.args.at _ _ c.in-Some.is c.wide_class.ensures

pub returns-in_default-2 : goal.returns-in_default-2
returns-in_default-2 c =
    let i = c.args.instances.now in
    twice_wrong i (is_in c.args.lookup.now.enabled.now) c.args.at _ c.in_default.is c.wide_class.ensures _ (shares_nothing (items_in i) (item_at i c.args.at) (rw c.in_default-2.is at c.in_ok-one.ensures.is))

pub returns-then-not-is_set : goal.returns-then-not-is_set
returns-then-not-is_set c =
    let i = c.args.instances.now in
    let t = c.requires.twice in
    let shares = rw c.in-Some-2.is at c.in_ok-one.ensures.is in
    twice_wrong i (is_in c.args.lookup.now.enabled.now) c.args.at _ c.in_default.is c.wide_class.ensures _
    (not_twice (namespaces_in i) t.namespaces c.args.lookup.now.names.now t.entries.ordered (items_in i) t.pairs t.shared (item_at i c.args.at) shares.0.0 shares.0.1 c.in-Some-2.one (shares.1 shares.0.0 shares.0.1)
    (λ w. true≢false (sym ((t.flagged c.in-Some-2.one.class).1 w) ∙ sym c.is_set.ensures ∙ c.if-not-is_set.true)))

pub returns : goal.returns
returns c =
    let i = c.args.instances.now in
    let t = c.requires.twice in
    let shares = rw c.in-Some-2.is at c.in_ok-one.ensures.is in
    twice_wrong i (is_in c.args.lookup.now.enabled.now) c.args.at _ c.in_default.is c.wide_class.ensures c.class_word.result
    (twice_told (namespaces_in i) t.namespaces c.args.lookup.now.names.now t.entries.ordered (items_in i) t.pairs t.shared (item_at i c.args.at) shares.0.0 shares.0.1 c.in-Some-2.one (shares.1 shares.0.0 shares.0.1)
    ((t.flagged c.in-Some-2.one.class).0 (sym c.is_set.ensures ∙ c.if-not-is_set.false)) c.class_word.result (c.class_word.ensures shares.0.1.keyword))

pub returns-in_err-one : goal.returns-in_err-one
returns-in_err-one c = IfOk-from_err c.from_residual.result _ c.from_residual.ensures.0
