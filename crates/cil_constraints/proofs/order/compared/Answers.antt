use Rattle.std.specs.Ordering.{nat_cmp, ordering_then}
use Rattle.std.proofs.Common.{◌∙◌, ap}
use Rattle.cil_constraints.proofs.StepLemmas.{steps_compare}
use Rattle.cil_constraints.proofs.order.compared.Goals as goal

pub returns : goal.returns
returns c =
    c.then-4.ensures
    ∙ ap (ordering_then c.cmp-tags.result) (c.then-3.ensures ∙ ap (ordering_then c.cmp-second.result) (c.then-2.ensures ∙ ap (ordering_then c.cmp-third.result) c.then.ensures))
    ∙ steps_compare c.args.a.now c.args.b.now c.cmp-tags.result c.cmp-second.result c.cmp-third.result c.cmp-fourth.result c.sets_compared.result
    (c.cmp-tags.ensures ∙ (λ i. nat_cmp (c.tag_of.ensures i) (c.tag_of-2.ensures i)))
    (c.cmp-second.ensures ∙ (λ i. nat_cmp (c.second_of.ensures i) (c.second_of-2.ensures i)))
    (c.cmp-third.ensures ∙ (λ i. nat_cmp (c.third_of.ensures i) (c.third_of-2.ensures i)))
    (c.cmp-fourth.ensures ∙ (λ i. nat_cmp (c.fourth_of.ensures i) (c.fourth_of-2.ensures i)))
    c.sets_compared.ensures
