use Rattle.std.specs.Prelude.{List}
use Rattle.std.proofs.Common.{subst, sym}
use Rattle.cil_macros.specs.Items.{items_in, namespaces_in}
use Rattle.cil_names.specs.declared.entry.Entry.{Entry}
use Rattle.cil_names.specs.Entries.{is_in}
use Rattle.cil_optionals.specs.Parts.{IsShown, parts_in}
use Rattle.cil_optionals.proofs.ShownLemmas.{right_shown, shown_right}
use Rattle.cil_optionals.proofs.chosen.check.Goals as goal

pub returns : goal.returns
returns c =
    let i = c.args.instances.now in
    let es = c.args.names.now in
    let ps = parts_in c.parts_of-parts.result in
    let enabled = is_in c.args.chosen.now.enabled in
    let reasons = c.args.chosen.now.reasons.items in
    let of = c.parts_of-parts.ensures in
    let law = c.resolves_by_candidates.ensures in (
      λ yes_it_is. shown_right law (namespaces_in i) es (items_in i) ps of enabled reasons
          (subst (λ (l : List Entry). IsShown ps l enabled reasons) c.entries.ensures.value (c.in_ok-right.ensures.0 yes_it_is)),
      λ right. c.in_ok-right.ensures.1
          (subst (λ (l : List Entry). IsShown ps l enabled reasons) (sym c.entries.ensures.value) (right_shown law (namespaces_in i) es (items_in i) ps of enabled reasons right)),
    )
