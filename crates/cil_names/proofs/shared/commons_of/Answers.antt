use Rattle.cil_macros.specs.Items.{items_in, namespaces_in}
use Rattle.cil_names.proofs.SharedLemmas.{all_listed}
use Rattle.cil_names.proofs.shared.commons_of.Goals as goal

pub returns : goal.returns
returns c =
    let i = c.args.instances.now in
    all_listed (namespaces_in i) c.args.names.now (items_in i) _ _ _ c.in_ok-shared.ensures c.sort_unstable.ensures.permutation c.sort_unstable.ensures.sorted c.dedup.ensures.filtered
