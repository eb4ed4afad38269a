use Rattle.std.proofs.Common.{subst, sym, true≢false, ◌∙◌}
use Rattle.cil_macros.specs.blocks.Namespaces.{AreNamespaces}
use Rattle.cil_macros.specs.Items.{item_at, namespaces_in, placed_at, word_at}
use Rattle.cil_macros.proofs.ItemLemmas.{placed_there}
use Rattle.cil_macros.proofs.PlacedLemmas.{is_place}
use Rattle.cil_syntax.specs.Said.{args_of}
use Rattle.cil_names.proofs.PermissionLemmas.{kept_unknown, kept_unlisted, kept_without, listed_here, none_declared, one_declared, said_by_list}
use Rattle.cil_names.proofs.permissions.listing_at.Goals as goal

-- a statement in an optional lists nothing
pub returns-then-not-is_outside : goal.returns-then-not-is_outside
returns-then-not-is_outside c = λ xs lists ordered are.
    let i = c.args.instances.now in
    kept_without (namespaces_in i) c.args.entries.now xs (item_at i c.args.at) lists (λ sign name d. true≢false (sym (c.is_outside.ensures.1 d.outside) ∙ c.if-not-is_outside.true)) are

pub returns-in_default : goal.returns-in_default
returns-in_default c = λ xs lists ordered are.
    let i = c.args.instances.now in
    kept_without (namespaces_in i) c.args.entries.now xs (item_at i c.args.at) lists
    (none_declared i c.args.at c.statement_there-statement.result.now c.statement_there-statement.ensures.is c.in_default.ensures) are

pub returns-in_default-entry_in : goal.returns-in_default-entry_in
returns-in_default-entry_in c = λ xs lists ordered are.
    let i = c.args.instances.now in
    let sign = c.in-Some.list.sign in
    let name = c.in-Some.list.name in
    kept_unknown (namespaces_in i) c.args.entries.now xs (item_at i c.args.at) (subst AreNamespaces c.namespaces.ensures.value c.namespaces.ensures.once) ordered c.space-space.result c.space-space.ensures sign name.bytes.now
    (one_declared i c.args.at c.statement_there-statement.result.now c.statement_there-statement.ensures.is sign name.at name.bytes.now c.in-Some.ensures (c.is_outside.ensures.0 c.if-not-is_outside.false)) lists
    c.in_default-entry_in.ensures are

pub returns-in_default-listed_behind_name : goal.returns-in_default-listed_behind_name
returns-in_default-listed_behind_name c = λ xs lists ordered are.
    let i = c.args.instances.now in
    let sign = c.in-Some.list.sign in
    let name = c.in-Some.list.name in
    kept_unlisted (namespaces_in i) c.args.entries.now xs (item_at i c.args.at) (subst AreNamespaces c.namespaces.ensures.value c.namespaces.ensures.once) ordered c.space-space.result c.space-space.ensures sign name.bytes.now
    (one_declared i c.args.at c.statement_there-statement.result.now c.statement_there-statement.ensures.is sign name.at name.bytes.now c.in-Some.ensures (c.is_outside.ensures.0 c.if-not-is_outside.false))
    (word_at i c.args.at) (args_of c.statement_there-statement.result.now)
    (said_by_list i c.args.at c.statement_there-statement.result.now c.statement_there-statement.ensures.is sign name.at name.bytes.now c.in-Some.ensures) lists
    c.in_default-listed_behind_name.ensures are

pub statement-requires : goal.statement-requires
statement-requires c = is_place c.args.instances.now c.args.at c.requires.within

pub returns : goal.returns
returns c =
    let i = c.args.instances.now in
    let s = c.statement_there-statement.result.now in
    let sign = c.in-Some.list.sign in
    let name = c.in-Some.list.name in
    record {
      spaces = subst AreNamespaces c.namespaces.ensures.value c.namespaces.ensures.once;
      sign = sign;
      name = name.bytes.now;
      declares = one_declared i c.args.at s c.statement_there-statement.ensures.is sign name.at name.bytes.now c.in-Some.ensures (c.is_outside.ensures.0 c.if-not-is_outside.false);
      space = c.space-space.result;
      numbered = c.space-space.ensures;
      entry = c.in-Some-entry_in.ensures;
      args = args_of s;
      says = said_by_list i c.args.at s c.statement_there-statement.ensures.is sign name.at name.bytes.now c.in-Some.ensures;
      in_module = s.at.«module»;
      listed = c.in-Some-listed_behind_name.ensures;
      of_statement = listed_here i c.args.at s c.statement_there-statement.ensures.is sign name.at name.bytes.now c.in-Some.ensures c.statement.result
          (c.statement.ensures (placed_at i c.args.at) (placed_there i c.args.at c.requires.within));
    }
