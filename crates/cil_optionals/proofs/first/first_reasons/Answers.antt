use Rattle.cil_optionals.specs.Parts.{parts_in}
use Rattle.cil_optionals.proofs.FirstPartLemmas.{finished}
use Rattle.cil_optionals.proofs.first.first_reasons.Goals as goal

pub returns-clause-shown : goal.returns-clause-shown
returns-clause-shown c =
    (finished (parts_in c.args.parts.now) c.args.entries.now c.args.chosen.now.reasons.items c.as_slice-reasons.result.now c.in_ok-told.told.items c.in_ok-times.times.items c.as_slice.result.now
    c.as_slice-2.result.now c.in_ok-entries.entries.items c.as_slice-3.result.now c.args.chosen.now.enabled c.as_slice-reasons.ensures.value c.as_slice.ensures.value c.as_slice-2.ensures.value
    c.as_slice-3.ensures.value c.in_ok-times.ensures c.in_ok-entries.ensures c.requires c.in_ok-told.ensures).0

pub returns-clause-first : goal.returns-clause-first
returns-clause-first c =
    (finished (parts_in c.args.parts.now) c.args.entries.now c.args.chosen.now.reasons.items c.as_slice-reasons.result.now c.in_ok-told.told.items c.in_ok-times.times.items c.as_slice.result.now
    c.as_slice-2.result.now c.in_ok-entries.entries.items c.as_slice-3.result.now c.args.chosen.now.enabled c.as_slice-reasons.ensures.value c.as_slice.ensures.value c.as_slice-2.ensures.value
    c.as_slice-3.ensures.value c.in_ok-times.ensures c.in_ok-entries.ensures c.requires c.in_ok-told.ensures).1
