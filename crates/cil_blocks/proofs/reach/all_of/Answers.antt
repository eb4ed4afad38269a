use Rattle.std.proofs.Common.{◌∙◌, ap}
use Rattle.std.specs.List.{flat_map}
use Rattle.cil_blocks.specs.Seeds.{body_parts}
use Rattle.cil_blocks.proofs.DoubledLemmas.{if_ok}
use Rattle.cil_blocks.proofs.MemberLemmas.{all_given}
use Rattle.cil_blocks.proofs.reach.all_of.Goals as goal

pub returns : goal.returns
returns c =
    if_ok _ _ c.all_in.result
    (λ all is. all_given c.args.parts.now c.args.targets.now c.args.seed c.in_ok-reached.reached.keys all.items c.in_ok-reached.ensures
    (is ∙ ap (flat_map (body_parts c.args.parts.now)) c.as_slice.ensures.keys))
    c.all_in.ensures
