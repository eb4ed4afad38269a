use Rattle.std.specs.Prelude.{Contains, MatchOption, length}
use Rattle.std.proofs.Common.{◌≡◌, ◌≤◌, ◌∙◌, ap, subst, sym}
use Rattle.std.proofs.lemmas.Bool.{true≢false}
use Rattle.std.proofs.lemmas.Option.{none-some}
use Rattle.cil_base.specs.Places.{get_contains}
use Rattle.cil_attrs.specs.macros.blocks.Namespaces.{space_at}
use Rattle.cil_syntax.specs.declared.kind.Keyword.{Keyword}
use Rattle.cil_syntax.specs.declared.kind.Kind.TheVariants as kinds
use Rattle.cil_syntax.specs.declared.kind.Sign.TheVariants as signs
use Rattle.cil_syntax.specs.Forms.{name_in_front}
use Rattle.cil_syntax.specs.Said.{args_of}
use Rattle.cil_syntax.specs.Table.{entry_of}
use Rattle.cil_attrs.specs.macros.Items.{item_at, items_in}
use Rattle.cil_attrs.proofs.macros_lemmas.ItemLemmas.{item_there}
use Rattle.cil_attrs.proofs.macros_lemmas.ItemsThere.{keyword_there}
use Rattle.cil_attrs.proofs.macros_lemmas.SaidTerms.{front_said, front_written}
use Rattle.cil_attrs.specs.names.Entries.{HasNoEntryIn, IsEntryIn}
use Rattle.cil_attrs.proofs.DeclaredLemmas.{declares_written, said_so}
use Rattle.cil_mls.proofs.SetEdgeLemmas.{declares_just}
use Rattle.cil_mls.proofs.category_sets.set_declared.Goals as goal

pub entry-requires-clause-ordered : goal.entry-requires-clause-ordered
entry-requires-clause-ordered c = c.requires.known.1.entries.ordered

pub entry-requires-clause-within : goal.entry-requires-clause-within
entry-requires-clause-within c = subst (λ ss. c.space-space.result ≤ length ss) (sym c.requires.namespaces) c.space-space.ensures.within

pub returns-then-not-declares : goal.returns-then-not-declares
returns-then-not-declares c at name d =
    let i = c.args.instances.now in
    let there = keyword_there i c.args.at c.statement_there-statement.result.now c.statement_there-statement.ensures.is in
    let t = c.declares.ensures.1 (subst (λ (k : Keyword). Contains (entry_of k).declares kinds.CategorySet) there d.of_kind) in
    let f = c.if-not-declares.true in
    true≢false (sym t ∙ f)

pub returns-then-not-is_enabled : goal.returns-then-not-is_enabled
returns-then-not-is_enabled c at name d = true≢false (sym d.enabled ∙ sym c.is_enabled.ensures ∙ c.if-not-is_enabled.true)

pub returns-in_default : goal.returns-in_default
returns-in_default c at name d =
    let i = c.args.instances.now in
    let s = c.statement_there-statement.result.now in
    let are = (said_so i c.args.at s c.statement_there-statement.ensures.is).args (declares_written s.keyword kinds.CategorySet (c.declares.ensures.0 c.if-not-declares.false)) in
    let (more, is) = front_written (args_of s) (item_at i c.args.at).args are at name d.rest d.says in
    none-some name (sym c.in_default.ensures ∙ ap name_in_front is)

pub returns : goal.returns
returns c =
    let k = c.args.known.now in
    let i = c.args.instances.now in
    let xs = items_in i in
    let x = item_at i c.args.at in
    let s = c.statement_there-statement.result.now in
    let ss = k.lookup.namespaces.now in
    let es = k.lookup.names.now in
    let there = keyword_there i c.args.at s c.statement_there-statement.ensures.is in
    let declares = c.declares.ensures.0 c.if-not-declares.false in
    let are = (said_so i c.args.at s c.statement_there-statement.ensures.is).args (declares_written s.keyword kinds.CategorySet declares) in
    let name = c.in-Some.name in
    let front = front_said (args_of s) x.args are name.at name.bytes.now c.in-Some.ensures in
    let space : space_at ss c.space-space.result ≡ x.space = ap (λ z. space_at z c.space-space.result) c.requires.namespaces ∙ c.space-space.ensures.is in
    declares_just k xs x c.requires.known.1.entries name.at name.bytes.now
    (record {
      is_item = get_contains xs c.args.at x (item_there i c.args.at c.requires.within);
      enabled = sym c.is_enabled.ensures ∙ c.if-not-is_enabled.false;
      rest = front.0;
      says = front.1;
      of_kind = subst (λ (w : Keyword). Contains (entry_of w).declares kinds.CategorySet) (sym there) declares;
    })
    _ (subst (λ n. MatchOption c.entry.result (HasNoEntryIn ss es name.bytes.now signs.CategorySets n) (IsEntryIn ss es name.bytes.now signs.CategorySets n)) space c.entry.ensures)
