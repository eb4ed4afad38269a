use Rattle.std.proofs.Common.{◌∙◌}
use Rattle.cil_level_rows.proofs.KeptLemmas.{none_kept}
use Rattle.cil_level_rows.proofs.users.kept_ranges.Goals as goal

pub loop-d-init : goal.loop-d-init
loop-d-init c = (c.in_ok-kept.ensures.len, none_kept c.args.known.now c.args.ranges.now c.in_ok-kept.kept.items c.in_ok-kept.ensures.none)

pub loop-d-preserved : goal.loop-d-preserved
loop-d-preserved c = (c.keep_at.ensures.len ∙ c.loop-d.invariant.0, c.keep_at.ensures.kept c.loop-d.invariant.1)

pub returns : goal.returns
returns c = record { len = c.loop-d.invariant.0; kept = c.loop-d.invariant.1 }
