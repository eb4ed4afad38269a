use Rattle.std.specs.Prelude.{List}
use Rattle.std.proofs.Common.{subst, arith}
use Rattle.cil_macros.specs.Items.{items_in, namespaces_in}
use Rattle.cil_names.specs.declared.entry.Entry.{Entry}
use Rattle.cil_names.specs.Entries.{is_in}
use Rattle.cil_optionals.specs.FirstParts.{AreFirstIn}
use Rattle.cil_optionals.specs.PartCounts.{AreLookups}
use Rattle.cil_optionals.specs.Parts.{IsShown, parts_in}
use Rattle.cil_optionals.proofs.CountLemmas.{lookups_are}
use Rattle.cil_optionals.proofs.FirstLemmas.{are_first}
use Rattle.cil_optionals.proofs.RemovedLemmas.{removals_are}
use Rattle.cil_optionals.proofs.ShownLemmas.{shown_right}
use Rattle.cil_optionals.proofs.chosen.counted_of.Goals as goal

pub returns-clause-right : goal.returns-clause-right
returns-clause-right c =
    let i = c.args.instances.now in
    let es = c.args.names.now in
    let ps = parts_in c.parts_of-parts.result in
    shown_right c.resolves_by_candidates.ensures (namespaces_in i) es (items_in i) ps c.parts_of-parts.ensures (is_in c.in_ok-walk.walk.chosen.enabled) c.in_ok-walk.walk.chosen.reasons.items
    (subst (λ (l : List Entry). IsShown ps l (is_in c.in_ok-walk.walk.chosen.enabled) c.in_ok-walk.walk.chosen.reasons.items) c.entries.ensures.value c.in_ok-walk.ensures.shown)

pub returns-clause-greatest : goal.returns-clause-greatest
returns-clause-greatest c =
    c.right_is_greatest.ensures (items_in c.args.instances.now) (is_in c.in_ok-walk.walk.chosen.enabled) c.in_ok-walk.walk.chosen.reasons.items (returns-clause-right c)

pub returns-clause-first : goal.returns-clause-first
returns-clause-first c =
    let i = c.args.instances.now in
    let es = c.args.names.now in
    let ps = parts_in c.parts_of-parts.result in
    are_first c.resolves_by_candidates.ensures (namespaces_in i) es (items_in i) ps c.parts_of-parts.ensures c.in_ok-walk.walk.chosen.reasons.items
    (subst (λ (l : List Entry). AreFirstIn ps l c.in_ok-walk.walk.chosen.reasons.items) c.entries.ensures.value c.in_ok-walk.ensures.first)

pub returns-clause-removals : goal.returns-clause-removals
returns-clause-removals c =
    let counted = removals_are (items_in c.args.instances.now) (is_in c.in_ok-walk.walk.chosen.enabled) c.in_ok-walk.walk.chosen.reasons.items (returns-clause-right c) in
    let length = c.len.ensures in
    let whole = c.in_ok-walk.walk.chosen.reasons.ok in
    omega (arith, counted, length, whole)

pub returns-clause-lookups : goal.returns-clause-lookups
returns-clause-lookups c =
    let i = c.args.instances.now in
    let es = c.args.names.now in
    let ps = parts_in c.parts_of-parts.result in
    lookups_are (namespaces_in i) es (items_in i) ps c.parts_of-parts.ensures (is_in c.in_ok-walk.walk.chosen.enabled) c.in_ok-walk.walk.lookups
    (subst (λ (l : List Entry). AreLookups (items_in i) ps l (is_in c.in_ok-walk.walk.chosen.enabled) c.in_ok-walk.walk.lookups) c.entries.ensures.value c.in_ok-walk.ensures.lookups)
