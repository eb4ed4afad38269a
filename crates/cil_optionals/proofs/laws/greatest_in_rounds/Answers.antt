use Rattle.std.specs.Prelude.{List}
use Rattle.std.proofs.Common.{subst}
use Rattle.cil_macros.specs.Items.{items_in, namespaces_in}
use Rattle.cil_names.specs.declared.entry.Entry.{Entry}
use Rattle.cil_names.specs.Entries.{is_in}
use Rattle.cil_optionals.specs.Parts.{IsShown, parts_in}
use Rattle.cil_optionals.proofs.ShownLemmas.{shown_right}
use Rattle.cil_optionals.proofs.laws.greatest_in_rounds.Goals as goal

pub returns-clause-right : goal.returns-clause-right
returns-clause-right c =
    let i = c.args.instances.now in
    let es = c.args.names.now in
    let ps = parts_in c.parts_of-parts.result in
    shown_right c.resolves_by_candidates.ensures (namespaces_in i) es (items_in i) ps c.parts_of-parts.ensures (is_in c.in_ok-chosen.chosen.enabled) c.in_ok-chosen.chosen.reasons.items
    (subst (λ (l : List Entry). IsShown ps l (is_in c.in_ok-chosen.chosen.enabled) c.in_ok-chosen.chosen.reasons.items) c.entries.ensures.value c.in_ok-chosen.ensures)

pub returns-clause-one_set : goal.returns-clause-one_set
returns-clause-one_set c = λ s is.
    c.one_greatest.ensures (items_in c.args.instances.now) s (is_in c.in_ok-chosen.chosen.enabled) is
    (c.right_is_greatest.ensures (items_in c.args.instances.now) (is_in c.in_ok-chosen.chosen.enabled) c.in_ok-chosen.chosen.reasons.items (returns-clause-right c))
