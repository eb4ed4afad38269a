use Rattle.cil_blocks.proofs.CoverLemmas.{covers_from}
use Rattle.cil_blocks.proofs.seeds.cover_from.Goals as goal

pub returns : goal.returns
returns c =
    covers_from c.args.parts.now c.args.targets.now c.args.seed c.in_ok-reached.reached.keys c.as_slice.result.now c.args.covered.now.keys _ c.in_ok-reached.ensures
    c.as_slice.ensures.keys c.in_ok-insert_bodies.ensures
