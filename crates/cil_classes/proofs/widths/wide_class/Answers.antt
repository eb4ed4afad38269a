use Rattle.std.specs.Prelude.{length}
use Rattle.std.proofs.Common.{◌≡◌, ◌<◌, ◌≤◌, ◌∙◌, ap, rules, subst, sym}
use Rattle.cil_base.specs.Places.{get_contains}
use Rattle.cil_macros.specs.blocks.Namespaces.{space_at}
use Rattle.cil_syntax.specs.declared.kind.Sign.TheVariants as signs
use Rattle.cil_macros.specs.Items.{item_at, items_in, word_at}
use Rattle.cil_macros.proofs.ItemLemmas.{item_there}
use Rattle.cil_names.specs.Entries.{HasNoEntryIn, IsEntryIn, is_in}
use Rattle.cil_names.specs.Unresolved.{listed_at}
use Rattle.cil_classes.specs.Row.{most_permissions}
use Rattle.cil_classes.proofs.WidthLemmas.{class_said, declares_none, few, many, no_entry, not_enabled}
use Rattle.cil_classes.proofs.widths.wide_class.Goals as goal

pub entry-requires-clause-ordered : goal.entry-requires-clause-ordered
entry-requires-clause-ordered c = c.requires.asked.entries.ordered

pub entry-requires-clause-within : goal.entry-requires-clause-within
entry-requires-clause-within c = subst (λ ss. c.space-space.result ≤ length ss) (sym c.requires.asked.namespaces) c.space-space.ensures.within

pub returns-then-not-has_round : goal.returns-then-not-has_round
returns-then-not-has_round c = record {
  is =
      not_enabled (items_in c.args.instances.now) (is_in c.args.lookup.now.enabled.now) (item_at c.args.instances.now c.args.at)
      (sym c.has_round.ensures ∙ c.if-not-has_round.true);
}

pub returns-in_default : goal.returns-in_default
returns-in_default c = record {
  is =
      let i = c.args.instances.now in
      let s = c.statement_there-statement.result.now in
      declares_none c.args.lookup.now.namespaces.now (items_in i) c.args.lookup.now.names.now (is_in c.args.lookup.now.enabled.now) (item_at i c.args.at) s (word_at i c.args.at)
      (class_said i c.args.at s c.statement_there-statement.ensures.is) c.in_default.ensures;
}

pub returns-in_default-entry : goal.returns-in_default-entry
returns-in_default-entry c = record {
  is =
      let i = c.args.instances.now in
      let s = c.statement_there-statement.result.now in
      let ss = c.args.lookup.now.namespaces.now in
      let x = item_at i c.args.at in
      let space : space_at ss c.space-space.result ≡ x.space = ap (λ z. space_at z c.space-space.result) c.requires.asked.namespaces ∙ c.space-space.ensures.is in
      let name = c.in-Some.name in
      no_entry ss (items_in i) c.args.lookup.now.names.now (is_in c.args.lookup.now.enabled.now) x s (word_at i c.args.at) (class_said i c.args.at s c.statement_there-statement.ensures.is) name.at name.bytes.now
      c.in-Some.ensures c.requires.asked.entries (get_contains (items_in i) c.args.at x (item_there i c.args.at c.requires.within))
      (subst (HasNoEntryIn ss c.args.lookup.now.names.now name.bytes.now signs.Classes) space c.in_default-entry.ensures);
}

pub returns-then-listed_count-le-MOST_PERMISSIONS : goal.returns-then-listed_count-le-MOST_PERMISSIONS
returns-then-listed_count-le-MOST_PERMISSIONS c = record {
  is =
      let short : length (listed_at c.args.permissions.now c.in-Some-entry.class) ≤ most_permissions = let h = c.if-listed_count-le-MOST_PERMISSIONS.true in let n = c.listed_count.ensures in search (rules, h, n) in
      let i = c.args.instances.now in
      let s = c.statement_there-statement.result.now in
      let ss = c.args.lookup.now.namespaces.now in
      let x = item_at i c.args.at in
      let space : space_at ss c.space-space.result ≡ x.space = ap (λ z. space_at z c.space-space.result) c.requires.asked.namespaces ∙ c.space-space.ensures.is in
      let name = c.in-Some.name in
      few ss (items_in i) c.args.lookup.now.names.now (is_in c.args.lookup.now.enabled.now) x s (word_at i c.args.at) (class_said i c.args.at s c.statement_there-statement.ensures.is) name.at name.bytes.now
      c.in-Some.ensures c.requires.asked.entries (get_contains (items_in i) c.args.at x (item_there i c.args.at c.requires.within)) c.args.permissions.now c.requires.asked.permissions c.in-Some-entry.class
      (subst (λ n. IsEntryIn ss c.args.lookup.now.names.now name.bytes.now signs.Classes n c.in-Some-entry.class) space c.in-Some-entry.ensures) short;
}

pub returns : goal.returns
returns c = record {
  is =
      let big : most_permissions < length (listed_at c.args.permissions.now c.in-Some-entry.class) = let h = c.if-listed_count-le-MOST_PERMISSIONS.false in let n = c.listed_count.ensures in search (rules, h, n) in
      let i = c.args.instances.now in
      let s = c.statement_there-statement.result.now in
      let ss = c.args.lookup.now.namespaces.now in
      let x = item_at i c.args.at in
      let space : space_at ss c.space-space.result ≡ x.space = ap (λ z. space_at z c.space-space.result) c.requires.asked.namespaces ∙ c.space-space.ensures.is in
      let name = c.in-Some.name in
      many ss (items_in i) c.args.lookup.now.names.now (is_in c.args.lookup.now.enabled.now) x s (word_at i c.args.at) (class_said i c.args.at s c.statement_there-statement.ensures.is) name.at name.bytes.now
      c.in-Some.ensures c.requires.asked.entries (get_contains (items_in i) c.args.at x (item_there i c.args.at c.requires.within)) c.args.permissions.now c.requires.asked.permissions c.in-Some-entry.class
      (subst (λ n. IsEntryIn ss c.args.lookup.now.names.now name.bytes.now signs.Classes n c.in-Some-entry.class) space c.in-Some-entry.ensures)
      (sym c.has_round.ensures ∙ c.if-not-has_round.false) big;
}
