use Rattle.cil_macros.specs.Items.{all_placed, item_at}
use Rattle.cil_names.proofs.AskedLemmas.{told_so}
use Rattle.cil_names.proofs.asked.word_asked.Goals as goal

pub returns : goal.returns
returns c =
    let ps = all_placed c.args.instances.now in
    told_so ps (item_at c.args.instances.now c.args.at) c.in_ok-asked.asked.items c.in_ok-asked.ensures c.args.number c.told_of.result
    ((rw c.as_slice.ensures.value at c.told_of.ensures) ps)
