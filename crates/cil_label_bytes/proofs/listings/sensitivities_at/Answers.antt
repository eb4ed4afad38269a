use Rattle.cil_label_bytes.proofs.PairLemmas.{section_read}
use Rattle.cil_label_bytes.proofs.listings.sensitivities_at.Goals as goal

pub returns : goal.returns
returns c =
    section_read c.args.categories c.levels_at.result c.args.bytes.now c.in_ok-count.rest.now c.in_ok-count.count c.in_ok-count.ensures c.levels_at.ensures.read c.levels_at.ensures.paired
