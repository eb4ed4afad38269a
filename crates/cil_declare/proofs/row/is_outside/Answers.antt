use Rattle.std.proofs.Common.{◌∙◌, ap, sym}
use Rattle.cil_macros.specs.Items.{item_at}
use Rattle.cil_declare.specs.Rows.{round_at}
use Rattle.cil_declare.specs.Runs.{has_none, is_always}
use Rattle.cil_declare.proofs.EntryLemmas.{none_told}
use Rattle.cil_declare.proofs.row.is_outside.Goals as goal

pub returns-in-Some : goal.returns-in-Some
unfolding is_always
returns-in-Some c =
    let i = c.args.instances.now in
    none_told (item_at i c.in-Some.at).round _ c.is_outside.ensures ∙ ap (λ o. has_none (round_at i o)) (sym c.in-Some.is)

pub returns-in-None : goal.returns-in-None
unfolding is_always
returns-in-None c = ap (λ o. has_none (round_at c.args.instances.now o)) (sym c.in-None.is)
