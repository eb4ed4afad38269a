use Rattle.cil_macros.specs.Items.{all_placed, item_at}
use Rattle.cil_macros.proofs.ListTermLemmas.{handed_on}
use Rattle.cil_macros.proofs.instances.Instances.terms.Goals as goal

pub returns : goal.returns
returns c =
    handed_on (all_placed c.args.self.now) c.in_ok-parts.parts.items c.as_slice.result.now (item_at c.args.self.now c.args.at).args c.as_slice.ensures.value
    c.in_ok-parts.ensures.parts c.terms_of.result c.terms_of.ensures
