use Rattle.std.proofs.Common.{◌∙◌, ap, sym}
use Rattle.std.proofs.lemmas.Bool.{true≢false}
use Rattle.cil_syntax.specs.Said.{args_of}
use Rattle.cil_macros.specs.Items.{item_at, items_in, namespaces_in, word_at}
use Rattle.cil_macros.proofs.ItemsThere.{keyword_there, named_there}
use Rattle.cil_names.specs.Resolves.{is_class_common}
use Rattle.cil_names.proofs.SharedLemmas.{inside, joins_as_written, joins_named, other_terms, pair_is}
use Rattle.cil_names.proofs.shared.shared_at.Goals as goal

pub returns-then-not-is_outside : goal.returns-then-not-is_outside
returns-then-not-is_outside c =
    let i = c.args.instances.now in
    inside (namespaces_in i) c.args.names.now (items_in i) (item_at i c.args.at) (λ e. true≢false (sym (c.is_outside.ensures.1 e) ∙ c.if-not-is_outside.true))

pub returns-in_default : goal.returns-in_default
returns-in_default c =
    let i = c.args.instances.now in
    let s = c.statement_there-statement.result.now in
    let joins = sym c.if-not-is_class_common.ensures in
    let says = named_there i c.args.at s c.statement_there-statement.ensures.is (joins_named s.keyword joins) (joins_as_written s.keyword joins) in
    other_terms (namespaces_in i) c.args.names.now (items_in i) (item_at i c.args.at) (word_at i c.args.at) (args_of s) says c.in_default.ensures

pub returns : goal.returns
returns c =
    let i = c.args.instances.now in
    let s = c.statement_there-statement.result.now in
    let joins = sym c.if-not-is_class_common.ensures in
    let says = named_there i c.args.at s c.statement_there-statement.ensures.is (joins_named s.keyword joins) (joins_as_written s.keyword joins) in
    pair_is (namespaces_in i) c.args.names.now (items_in i) (item_at i c.args.at) (word_at i c.args.at) (args_of s) says c.in-Some.words.first c.in-Some.words.second c.in-Some.ensures
    (c.is_outside.ensures.0 c.if-not-is_outside.false)
    (ap is_class_common (keyword_there i c.args.at s c.statement_there-statement.ensures.is) ∙ sym c.if-not-is_class_common.ensures) c.in_ok-class.class c.in_ok-common.common c.in_ok-class.ensures
    c.in_ok-common.ensures c.joined.result c.joined.ensures
