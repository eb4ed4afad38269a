use Rattle.cil_optionals.specs.Parts.{parts_in}
use Rattle.cil_optionals.proofs.TimeLemmas.{decided}
use Rattle.cil_optionals.proofs.checking.is_shown.Goals as goal

pub returns : goal.returns
returns c =
    decided (parts_in c.args.parts.now) c.args.entries.now c.args.chosen.now.reasons.items c.as_slice-reasons.result.now c.in_ok-times.times.items c.as_slice.result.now c.as_slice-2.result.now
    c.in_ok-entries.entries.items c.as_slice-3.result.now c.args.chosen.now.enabled _ c.as_slice-reasons.ensures.value c.as_slice.ensures.value c.as_slice-2.ensures.value
    c.as_slice-3.ensures.value c.in_ok-times.ensures c.in_ok-entries.ensures c.is_right.ensures
