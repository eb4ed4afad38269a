use Rattle.cil_ranges.proofs.WalkLemmas.{all_past, none_past, one_past, past_form, past_leaf, past_name}
use Rattle.cil_ranges.proofs.walk.+past.Goals as goal

pub parts_past-returns-in-Leaf : goal.parts_past-returns-in-Leaf
parts_past-returns-in-Leaf t c = λ ps f m u xs same says. past_leaf ps f m c.args.term.now u xs c.args.parts.now same says c.in-Leaf.field-0 c.in-Leaf.is c.behind_one.result.now c.behind_one.ensures

pub parts_past-returns-in-Name : goal.parts_past-returns-in-Name
parts_past-returns-in-Name t c = λ ps f m u xs same says. past_name ps f m c.args.term.now u xs c.args.parts.now same says _ _ c.in-Name.is c.behind_one-in-Name.result.now c.behind_one-in-Name.ensures

pub parts_past-returns-in-Form : goal.parts_past-returns-in-Form
parts_past-returns-in-Form t c = λ ps f m u xs same says.
    past_form ps f m c.args.term.now u xs c.args.parts.now same says _ _ c.in-Form.inner c.in-Form.is c.as_slice.result.now c.as_slice.ensures.value c.behind_one-in-Form.result.now c.parts_past_all.result.now c.behind_one-in-Form-2.result.now
    c.behind_one-in-Form.ensures c.behind_one-in-Form-2.ensures (λ us ys. c.parts_past_all.ensures ps f m us ys)

pub parts_past_all-loop-term-init : goal.parts_past_all-loop-term-init
parts_past_all-loop-term-init t c = none_past c.args.terms.now c.args.parts.now

pub parts_past_all-loop-term-preserved : goal.parts_past_all-loop-term-preserved
parts_past_all-loop-term-preserved t c =
    one_past c.args.terms.now c.args.parts.now c.loop-term.term-index _ c.term-item.result c.loop-term.rest.now c.parts_past-rest.result.now c.loop-term-test.true c.term-item.is c.parts_past-rest.ensures c.loop-term.invariant

pub parts_past_all-returns : goal.parts_past_all-returns
parts_past_all-returns t c = all_past c.args.terms.now c.args.parts.now c.loop-term.term-index c.loop-term.rest.now c.loop-term-test.false c.loop-term.invariant
