use Rattle.std.specs.Prelude.{List, Option, ℕ}
use Rattle.std.proofs.Common.{◌≡◌, arith, length, subst}
use Rattle.cil_macros.specs.Items.{items_in}
use Rattle.cil_mls.specs.declared.level.Range.{Range}
use Rattle.cil_level_rows.specs.KeptRanges.{AreKeptWhere}
use Rattle.cil_level_rows.specs.Parts.{AreAllWords}
use Rattle.cil_level_rows.proofs.TableLemmas.{names_apart, table_over}
use Rattle.cil_level_rows.proofs.rows.label_parts.Goals as goal

pub returns-clause-apart : goal.returns-clause-apart
returns-clause-apart c =
    names_apart c.args.known.now (items_in c.args.instances.now) c.args.sections.now c.requires.known c.requires.numbers c.args.orders.now c.requires.orders c.args.levels c.in_ok-names.names c.in_ok-names.ensures c.in_ok-aliases.aliases
    (c.in_ok-aliases.ensures c.requires.orders)

pub returns-clause-table : goal.returns-clause-table
returns-clause-table c = λ g is levels.
    let k = c.args.known.now in
    let users = c.in_ok-users.users.items in
    let len = c.len.ensures in
    let size : c.len.result ≡ length c.args.sections.now.users.items = omega (arith, len) in
    let kept =
    subst (λ (n : ℕ). AreKeptWhere k c.args.levels.users.items c.args.orders.now.are_on n users) size
    (subst (λ (l : List (Option Range)). AreKeptWhere k l c.args.orders.now.are_on c.len.result users) c.as_slice.ensures.value c.in_ok-users.ensures) in
    table_over k (items_in c.args.instances.now) c.args.sections.now c.requires.known c.requires.numbers c.args.orders.now c.requires.orders c.args.levels g is levels c.in_ok-names.names c.in_ok-names.ensures c.in_ok-aliases.aliases
    (c.in_ok-aliases.ensures c.requires.orders) (subst AreAllWords c.as_slice-2.ensures.value c.sets_have_words.ensures) users kept
