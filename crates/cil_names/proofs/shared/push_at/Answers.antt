use Rattle.std.proofs.lemmas.Result.{on_ok_weaker}
use Rattle.cil_macros.specs.Items.{item_at, items_in}
use Rattle.cil_macros.proofs.ItemLemmas.{items_taken}
use Rattle.cil_names.proofs.SharedLemmas.{records_next}
use Rattle.cil_names.proofs.shared.push_at.Goals as goal

pub returns : goal.returns
returns c =
    let i = c.args.instances.now in
    on_ok_weaker c.push_shared.result
    (λ push so_far.
    records_next _ _ (items_in i) c.args.at (item_at i c.args.at) (items_taken i c.args.at c.requires.within) _ so_far c.in_ok-one.one _ c.in_ok-one.ensures push)
    c.push_shared.ensures
