use Rattle.std.specs.Prelude.{List}
use Rattle.std.proofs.Common.{ap, arith, length, subst, sym, ◌∙◌}
use Rattle.cil_macros.specs.Items.{items_in, namespaces_in}
use Rattle.cil_names.specs.declared.entry.Entry.{Entry}
use Rattle.cil_names.specs.Entries.{AreOrdered}
use Rattle.cil_names.specs.Permissions.{AreOwn}
use Rattle.cil_names.proofs.PermissionLemmas.{listed_all, listed_more, listed_none, none_len, none_listed}
use Rattle.cil_names.proofs.permissions.own_lists.Goals as goal

pub loop-at-init : goal.loop-at-init
loop-at-init c = (
  c.in_ok-lists.ensures.len,
  listed_none (namespaces_in c.args.instances.now) c.entries-entries.result.now (items_in c.args.instances.now) _ c.in_ok-lists.ensures,
  none_len c.entries-entries.result.now _ c.in_ok-last.ensures,
  none_listed c.entries-entries.result.now c.args.instances.now _ _ c.in_ok-last.ensures,
)

pub loop-at-preserved : goal.loop-at-preserved
loop-at-preserved c =
    let i = c.args.instances.now in
    let h = c.loop-at-test.true in
    let n = c.len-at-end.ensures.items in
    let ordered : AreOrdered (namespaces_in i) c.entries-entries.result.now = subst (AreOrdered (namespaces_in i)) (sym c.entries-entries.ensures.value) c.requires.ordered in (
      c.in_ok-add_listed.ensures.len,
      listed_more (namespaces_in i) c.entries-entries.result.now i c.loop-at.at _ (omega (arith, h, n)) (c.in_ok-add_listed.ensures.listed _ ordered c.loop-at.invariant.3 c.loop-at.invariant.1),
      c.in_ok-add_listed.ensures.last_len,
      c.in_ok-add_listed.ensures.last ordered c.loop-at.invariant.3,
    )

pub returns-clause-len : goal.returns-clause-len
returns-clause-len c = c.loop-at.invariant.0 ∙ ap length c.entries-entries.ensures.value

pub returns-clause-own : goal.returns-clause-own
returns-clause-own c =
    let i = c.args.instances.now in
    let h = c.loop-at-test.false in
    let n = c.len-at-end.ensures.items in
    subst (λ (es : List Entry). AreOwn (namespaces_in i) es (items_in i) c.loop-at.lists.items) c.entries-entries.ensures.value
    (listed_all (namespaces_in i) c.entries-entries.result.now (items_in i) c.loop-at.at _ (omega (arith, h, n)) c.loop-at.invariant.1)

pub add_listed-requires-clause-within : goal.add_listed-requires-clause-within
add_listed-requires-clause-within c = let h = c.loop-at-test.true in let n = c.len-at-end.ensures.items in omega (arith, h, n)
