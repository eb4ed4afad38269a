use Rattle.std.proofs.Common.{◌∙◌, ap, refl, sym}
use Rattle.cil_attrs.specs.Targets.{steps_in}
use Rattle.cil_attrs.proofs.StepLemmas.{alone, are_steps}
use Rattle.cil_attrs.proofs.targets.steps_of.Goals as goal

pub returns : goal.returns
returns c = λ sections j known is.
    let k = c.args.known.now in
    let gifts = c.in_ok-givens.ensures sections (alone k c.args.instances.now sections known c.means_what_it_names.ensures c.args.item j) known (record { item = refl; aliases = is; attributes = tt }) in
    are_steps k c.args.instances.now sections known c.means_what_it_names.ensures c.args.item j c.in_ok-givens.givens.items gifts c.in_ok-steps.steps.items
    (c.in_ok-steps.ensures ∙ ap (λ es. steps_in es c.args.item c.args.aliases.kind c.as_slice.result.now) c.entries.ensures.value
    ∙ ap (λ gs. steps_in k.lookup.names.now c.args.item c.args.aliases.kind gs) c.as_slice.ensures.value
    ∙ ap (λ kind. steps_in k.lookup.names.now c.args.item kind c.in_ok-givens.givens.items) (sym is.kind))
