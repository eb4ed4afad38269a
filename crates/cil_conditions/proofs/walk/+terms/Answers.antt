use Rattle.std.proofs.Common.{sym, ◌∙◌}
use Rattle.cil_conditions.proofs.WalkLemmas.{both_ways, first_unsaid_in, form_added, form_unsaid, leaf_added, leaf_unsaid, name_unsaid, one_added_in, one_unsaid_in, other_number, second_unsaid_in, token_unsaid_in, turn_unsaid_in, two_added_in}
use Rattle.cil_conditions.proofs.walk.+terms.Goals as goal

pub push_condition-returns-in-Leaf : goal.push_condition-returns-in-Leaf
push_condition-returns-in-Leaf t c =
    both_ways c.push_boolean.result (leaf_unsaid c.args.known.now c.args.module c.args.term.now c.args.words.now c.in-Leaf.field-0 c.in-Leaf.is)
    (λ rest. leaf_added c.args.known.now c.args.module c.args.term.now c.args.words.now c.in-Leaf.field-0 c.in-Leaf.is rest.now _ _) c.push_boolean.ensures

pub push_condition-returns-in-Name : goal.push_condition-returns-in-Name
push_condition-returns-in-Name t c = name_unsaid c.args.known.now c.args.module c.args.term.now c.args.words.now _ _ c.in-Name.is

pub push_condition-returns-in-Form : goal.push_condition-returns-in-Form
push_condition-returns-in-Form t c =
    both_ways c.push_form.result (form_unsaid c.args.known.now c.args.module c.args.term.now c.args.words.now c.in-Form.field-1 c.in-Form.op c.in-Form.parts c.in-Form.is c.as_slice.result.now c.as_slice.ensures.value)
    (λ rest. form_added c.args.known.now c.args.module c.args.term.now c.args.words.now c.in-Form.field-1 c.in-Form.op c.in-Form.parts c.in-Form.is c.as_slice.result.now c.as_slice.ensures.value rest.now _ _)
    c.push_form.ensures

pub push_form-returns : goal.push_form-returns
push_form-returns t c = other_number c.args.known.now c.args.module c.args.op c.args.parts.now c.args.words.now c.if-parts-eq1.false c.if-parts-eq2.false

pub push_one-returns-in_default : goal.push_one-returns-in_default
push_one-returns-in_default t c =
    turn_unsaid_in c.args.known.now c.args.module c.args.op c.args.words.now c.args.parts.now c.requires (sym c.turns.ensures ∙ c.in_default.is)

pub push_one-returns : goal.push_one-returns
push_one-returns t c =
    let k = c.args.known.now in
    let m = c.args.module in
    let part = c.index-parts-0.result in
    both_ways c.push_condition.result (one_unsaid_in k m c.args.op c.args.words.now c.args.parts.now part part c.requires c.index-parts-0.is)
    (λ rest. one_added_in k m c.args.op c.args.words.now c.args.parts.now part part c.requires c.index-parts-0.is c.in-Some.turn rest.now c.args.out.now.items c.push_turn.new.out.items _
    (sym c.turns.ensures ∙ c.in-Some.is) c.in_ok-push_turn.ensures) c.push_condition.ensures

pub push_two-returns-in_default : goal.push_two-returns-in_default
push_two-returns-in_default t c = token_unsaid_in c.args.known.now c.args.module c.args.op c.args.words.now c.args.parts.now c.requires c.in_default.ensures

pub push_two-returns-in_default-2 : goal.push_two-returns-in_default-2
push_two-returns-in_default-2 t c =
    first_unsaid_in c.args.known.now c.args.module c.args.op c.args.words.now c.args.parts.now c.index-parts-0.result c.index-parts-0.result c.requires c.index-parts-0.is
    (rw c.in_default-2.is at c.in_ok-rest.ensures)

pub push_two-returns : goal.push_two-returns
push_two-returns t c =
    let k = c.args.known.now in
    let m = c.args.module in
    let a = c.index-parts-0.result in
    let b = c.index-parts-1.result in
    let first = rw c.in-Some-2.is at c.in_ok-rest.ensures in
    both_ways c.push_condition-2.result
    (second_unsaid_in k m c.args.op c.args.words.now c.args.parts.now a b a b c.requires c.index-parts-0.is c.index-parts-1.is c.in-Some-2.rest.now c.args.out.now.items c.push.new.self.items c.push_condition.new.out.items first)
    (λ rest. two_added_in k m c.args.op c.args.words.now c.args.parts.now a b a b c.requires c.index-parts-0.is c.index-parts-1.is c.in-Some-2.rest.now c.args.out.now.items c.push.new.self.items c.push_condition.new.out.items first
    c.in-Some.operator rest.now _ c.in-Some.ensures c.in_ok-push.ensures.items) c.push_condition-2.ensures
