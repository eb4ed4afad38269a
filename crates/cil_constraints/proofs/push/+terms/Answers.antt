use Rattle.std.proofs.Common.{sym, ◌∙◌}
use Rattle.cil_constraints.proofs.PushLemmas.{both_ways, first_unsaid_in, form_added, form_unsaid, joined_added, joined_unsaid, leaf_unsaid, name_unsaid, not_one, not_two, one_added_in, one_unsaid_in, second_unsaid_in, test_added, test_unsaid, two_added_in}
use Rattle.cil_constraints.proofs.push.+terms.Goals as goal

pub push_said-returns-in-Leaf : goal.push_said-returns-in-Leaf
push_said-returns-in-Leaf t c = leaf_unsaid c.args.module c.args.term.now c.in-Leaf.field-0 c.in-Leaf.is

pub push_said-returns-in-Name : goal.push_said-returns-in-Name
push_said-returns-in-Name t c = name_unsaid c.args.module c.args.term.now _ _ c.in-Name.is

pub push_said-returns-in-Form : goal.push_said-returns-in-Form
push_said-returns-in-Form t c =
    both_ways c.push_form.result (form_unsaid c.args.module c.args.term.now _ c.in-Form.op c.in-Form.parts c.in-Form.is c.as_slice.result.now c.as_slice.ensures.value)
    (λ rest. form_added c.args.module c.args.term.now _ c.in-Form.op c.in-Form.parts c.in-Form.is c.as_slice.result.now c.as_slice.ensures.value c.args.sets.now c.args.words.now rest.now _ _) c.push_form.ensures

pub push_form-returns-in-Some : goal.push_form-returns-in-Some
push_form-returns-in-Some t c =
    both_ways c.push_joined.result (joined_unsaid c.args.module c.args.op c.args.parts.now c.in-Some.joins (sym c.joins_of.ensures ∙ c.in-Some.is))
    (λ rest. joined_added c.args.module c.args.op c.args.parts.now c.in-Some.joins (sym c.joins_of.ensures ∙ c.in-Some.is) c.args.sets.now c.args.words.now rest.now _ _) c.push_joined.ensures

pub push_form-returns-in-None : goal.push_form-returns-in-None
push_form-returns-in-None t c =
    both_ways c.push_test.result (test_unsaid c.args.module c.args.op c.args.parts.now (sym c.joins_of.ensures ∙ c.in-None.is))
    (λ rest. test_added c.args.module c.args.op c.args.parts.now (sym c.joins_of.ensures ∙ c.in-None.is) c.args.sets.now c.args.words.now rest.now _ _) c.push_test.ensures

pub push_one-returns-then-parts-ne1 : goal.push_one-returns-then-parts-ne1
push_one-returns-then-parts-ne1 t c = not_one c.args.module c.args.joins c.args.parts.now c.requires c.if-parts-ne1.true

pub push_one-returns : goal.push_one-returns
push_one-returns t c =
    let part = c.index-parts-0.result in
    both_ways c.push_said.result (one_unsaid_in c.args.module c.args.joins c.args.parts.now part part c.if-parts-ne1.false c.index-parts-0.is c.requires)
    (λ rest. one_added_in c.args.module c.args.joins c.args.parts.now part part c.if-parts-ne1.false c.index-parts-0.is c.requires c.args.sets.now c.args.words.now rest.now _ _ _ c.in_ok-push_head.ensures)
    c.push_said.ensures

pub push_two-returns-then-parts-ne2 : goal.push_two-returns-then-parts-ne2
push_two-returns-then-parts-ne2 t c = not_two c.args.module c.args.joins c.args.parts.now c.requires c.if-parts-ne2.true

pub push_two-returns-in_default : goal.push_two-returns-in_default
push_two-returns-in_default t c =
    first_unsaid_in c.args.module c.args.joins c.args.parts.now c.index-parts-0.result c.index-parts-0.result c.if-parts-ne2.false c.index-parts-0.is c.requires (rw c.in_default.is at c.in_ok-rest.ensures)

pub push_two-returns : goal.push_two-returns
push_two-returns t c =
    let m = c.args.module in
    let a = c.index-parts-0.result in
    let b = c.index-parts-1.result in
    let first = rw c.in-Some.is at c.in_ok-rest.ensures in
    both_ways c.push_said-2.result (second_unsaid_in m c.args.joins c.args.parts.now a b a b c.if-parts-ne2.false c.index-parts-0.is c.index-parts-1.is c.requires)
    (λ rest. two_added_in m c.args.joins c.args.parts.now a b a b c.if-parts-ne2.false c.index-parts-0.is c.index-parts-1.is c.requires c.args.sets.now c.args.words.now c.in-Some.rest.now rest.now _ _ _ _
    c.in_ok-push_head.ensures first) c.push_said-2.ensures
