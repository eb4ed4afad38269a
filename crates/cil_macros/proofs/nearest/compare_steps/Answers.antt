use Rattle.std.proofs.Common.{◌∙◌, ap}
use Rattle.cil_blocks.specs.Contents.{spot_cmp}
use Rattle.cil_macros.proofs.NearestLemmas.{one_ended, ordered_itself, ordered_more, other_ended}
use Rattle.cil_macros.proofs.nearest.compare_steps.Goals as goal

pub loop-i-init : goal.loop-i-init
loop-i-init c = λ s t here there long.
    ordered_itself _ c.args.one c.args.other s t c.compare_spots-order.result here there long
    (c.compare_spots-order.ensures ∙ ap (λ p. spot_cmp p c.spot_of-2.result) (c.spot_of.ensures s here) ∙ ap (spot_cmp s.statement.statement.at) (c.spot_of-2.ensures t there))

pub returns-in_default-came_through : goal.returns-in_default-came_through
returns-in_default-came_through c = λ s t here there long.
    let so = c.loop-i.invariant s t here there long in
    other_ended _ c.loop-i.a c.loop-i.b c.loop-i.order s t so (c.in_default-came_through.ensures.through so.other so.is_other)

pub loop-i-preserved : goal.loop-i-preserved
loop-i-preserved c = λ s t here there long.
    let so = c.loop-i.invariant s t here there long in
    let one = c.in-Some.ensures.through so.one so.is_one in
    let other = c.in-Some-came_through.ensures.through so.other so.is_other in
    rw c.then-order.ensures (ordered_more _ c.loop-i.a c.loop-i.b c.loop-i.order s t so c.in-Some.i c.in-Some-came_through.j c.compare_spots-step.result one other
    (c.compare_spots-step.ensures ∙ ap (λ p. spot_cmp p c.spot_of-in-Some-2.result) (c.spot_of-in-Some.ensures one.by one.is) ∙ ap (spot_cmp one.by.statement.statement.at) (c.spot_of-in-Some-2.ensures other.by other.is)))

pub returns : goal.returns
returns c = λ s t here there long.
    let so = c.loop-i.invariant s t here there long in
    one_ended _ c.loop-i.a c.loop-i.b c.loop-i.order s t so (c.in_default.ensures.through so.one so.is_one)
