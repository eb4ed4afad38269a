use Rattle.std.specs.Prelude.{length}
use Rattle.std.proofs.Common.{◌≡◌, ◌≤◌, ◌∙◌, ap, subst, sym}
use Rattle.std.proofs.lemmas.Bool.{true≢false}
use Rattle.cil_base.specs.Places.{get_contains}
use Rattle.cil_known.specs.macros.blocks.Namespaces.{space_at}
use Rattle.cil_known.specs.macros.Items.{item_at, items_in}
use Rattle.cil_known.proofs.macros_lemmas.ItemLemmas.{item_there}
use Rattle.cil_known.proofs.macros_lemmas.ItemsThere.{keyword_there}
use Rattle.cil_known.specs.names.Entries.{HasNoEntryIn, IsEntryIn, is_in}
use Rattle.cil_attrs.proofs.DeclaredLemmas.{flagged, left_out, no_entry, no_name, not_flagged, other_kind, said_so}
use Rattle.cil_attrs.proofs.declared.flagged_name.Goals as goal

pub entry-requires-clause-ordered : goal.entry-requires-clause-ordered
entry-requires-clause-ordered c = c.requires.entries.ordered

pub entry-requires-clause-within : goal.entry-requires-clause-within
entry-requires-clause-within c = subst (λ ss. c.space-space.result ≤ length ss) (sym c.requires.namespaces) c.space-space.ensures.within

pub returns-then-not-declares : goal.returns-then-not-declares
returns-then-not-declares c = λ code.
    let i = c.args.instances.now in
    let s = c.statement_there-statement.result.now in
    other_kind c.args.lookup.now.namespaces.now c.args.lookup.now.names.now (items_in i) (is_in c.args.lookup.now.enabled.now) c.args.told.now.kind c.args.told.now.flags.now (item_at i c.args.at) s
    (keyword_there i c.args.at s c.statement_there-statement.ensures.is) (λ h. let t = c.declares.ensures.1 h in let f = c.if-not-declares.true in true≢false (sym t ∙ f)) code

pub returns-then-not-has_round : goal.returns-then-not-has_round
returns-then-not-has_round c = λ code.
    left_out c.args.lookup.now.namespaces.now c.args.lookup.now.names.now (items_in c.args.instances.now) (is_in c.args.lookup.now.enabled.now) c.args.told.now.kind c.args.told.now.flags.now (item_at c.args.instances.now c.args.at)
    (sym c.has_round.ensures ∙ c.if-not-has_round.true) code

pub returns-in_default : goal.returns-in_default
returns-in_default c = λ code.
    let i = c.args.instances.now in
    let s = c.statement_there-statement.result.now in
    no_name c.args.lookup.now.namespaces.now c.args.lookup.now.names.now (items_in i) (is_in c.args.lookup.now.enabled.now) c.args.told.now.kind c.args.told.now.flags.now (item_at i c.args.at) s
    (said_so i c.args.at s c.statement_there-statement.ensures.is) (c.declares.ensures.0 c.if-not-declares.false) c.in_default.ensures code

pub returns-in_default-entry : goal.returns-in_default-entry
returns-in_default-entry c = λ code.
    let i = c.args.instances.now in
    let s = c.statement_there-statement.result.now in
    let ss = c.args.lookup.now.namespaces.now in
    let x = item_at i c.args.at in
    let space : space_at ss c.space-space.result ≡ x.space = ap (λ z. space_at z c.space-space.result) c.requires.namespaces ∙ c.space-space.ensures.is in
    let name = c.in-Some.name in
    no_entry ss c.args.lookup.now.names.now (items_in i) (is_in c.args.lookup.now.enabled.now) c.args.told.now.kind c.args.told.now.flags.now x s (said_so i c.args.at s c.statement_there-statement.ensures.is)
    (c.declares.ensures.0 c.if-not-declares.false) name.at name.bytes.now c.in-Some.ensures c.args.told.now.sign c.requires.wanted c.requires.entries
    (subst (HasNoEntryIn ss c.args.lookup.now.names.now name.bytes.now c.args.told.now.sign) space c.in_default-entry.ensures) code

pub returns-then-not-is_flagged : goal.returns-then-not-is_flagged
returns-then-not-is_flagged c = λ code.
    let i = c.args.instances.now in
    let s = c.statement_there-statement.result.now in
    let ss = c.args.lookup.now.namespaces.now in
    let x = item_at i c.args.at in
    let space : space_at ss c.space-space.result ≡ x.space = ap (λ z. space_at z c.space-space.result) c.requires.namespaces ∙ c.space-space.ensures.is in
    let name = c.in-Some.name in
    not_flagged ss c.args.lookup.now.names.now (items_in i) (is_in c.args.lookup.now.enabled.now) c.args.told.now.kind c.args.told.now.flags.now x s (said_so i c.args.at s c.statement_there-statement.ensures.is)
    (c.declares.ensures.0 c.if-not-declares.false) name.at name.bytes.now c.in-Some.ensures c.args.told.now.sign c.requires.wanted c.requires.entries c.in-Some-entry.d
    (subst (λ n. IsEntryIn ss c.args.lookup.now.names.now name.bytes.now c.args.told.now.sign n c.in-Some-entry.d) space c.in-Some-entry.ensures) (sym c.is_flagged.ensures ∙ c.if-not-is_flagged.true) code

pub returns : goal.returns
returns c = λ code.
    let i = c.args.instances.now in
    let s = c.statement_there-statement.result.now in
    let ss = c.args.lookup.now.namespaces.now in
    let x = item_at i c.args.at in
    let space : space_at ss c.space-space.result ≡ x.space = ap (λ z. space_at z c.space-space.result) c.requires.namespaces ∙ c.space-space.ensures.is in
    let name = c.in-Some.name in
    flagged ss c.args.lookup.now.names.now (items_in i) (is_in c.args.lookup.now.enabled.now) c.args.told.now.kind c.args.told.now.flags.now x s (said_so i c.args.at s c.statement_there-statement.ensures.is)
    (c.declares.ensures.0 c.if-not-declares.false) name.at name.bytes.now c.in-Some.ensures c.args.told.now.sign c.requires.wanted c.requires.entries c.in-Some-entry.d
    (subst (λ n. IsEntryIn ss c.args.lookup.now.names.now name.bytes.now c.args.told.now.sign n c.in-Some-entry.d) space c.in-Some-entry.ensures)
    (get_contains (items_in i) c.args.at x (item_there i c.args.at c.requires.within)) (sym c.has_round.ensures ∙ c.if-not-has_round.false) (sym c.is_flagged.ensures ∙ c.if-not-is_flagged.false) code
