use Rattle.std.proofs.Common.{refl, sym}
use Rattle.cil_ranges.specs.Walked.{placed_in}
use Rattle.cil_ranges.proofs.WalkLemmas.{all_left, all_walked, form_walked, one_less, one_way, walks_class, walks_form, walks_leaf, walks_name}
use Rattle.cil_ranges.proofs.walk.+walk.Goals as goal

pub push_form-returns : goal.push_form-returns
push_form-returns t c =
    form_walked c.args.walk.now c.args.terms.now c.args.op c.args.ahead _ c.in_ok-rest.rest _ c.args.faults.now.items c.push_own.new.faults.items c.push_terms.new.faults.items c.in_ok-push_own.ensures refl c.behind_one.ensures c.in_ok-rest.ensures refl
    c.behind_one-2.ensures

pub push_term-returns-then-is_class_list : goal.push_term-returns-then-is_class_list
push_term-returns-then-is_class_list t c =
    walks_class c.args.walk.now c.args.term.now c.args.ahead _ c.args.faults.now.items c.in-Form.op _ c.in-Form.parts c.in-Form.is (sym c.if-is_class_list.ensures.list) c.behind.ensures
    (λ f u xs. c.parts_past.ensures (placed_in c.args.walk.now) f 0 u xs)

pub push_term-returns-in-Leaf : goal.push_term-returns-in-Leaf
push_term-returns-in-Leaf t c = walks_leaf c.args.walk.now c.args.term.now c.args.ahead _ c.args.faults.now.items c.in-Leaf.field-0 c.in-Leaf.is c.behind_first.ensures c.behind_one.ensures

pub push_term-returns-in-Name : goal.push_term-returns-in-Name
push_term-returns-in-Name t c = walks_name c.args.walk.now c.args.term.now c.args.ahead _ c.args.faults.now.items _ _ c.in-Name.is refl c.behind_one-in-Name.ensures

pub push_term-returns-else-is_class_list : goal.push_term-returns-else-is_class_list
push_term-returns-else-is_class_list t c =
    one_way c.push_form.result
    (λ rest. walks_form c.args.walk.now c.args.term.now c.args.ahead rest c.args.faults.now.items c.push_form.new.faults.items c.in-Form.op _ c.in-Form.parts c.in-Form.is c.as_slice.result.now c.as_slice.ensures.value
    (sym c.if-is_class_list.ensures.list)) c.push_form.ensures

pub push_terms-loop-term-init : goal.push_terms-loop-term-init
push_terms-loop-term-init t c = all_left c.args.walk.now c.args.terms.now c.args.ahead c.args.faults.now.items

pub push_terms-loop-term-preserved : goal.push_terms-loop-term-preserved
push_terms-loop-term-preserved t c =
    one_less c.args.walk.now c.args.terms.now c.args.ahead c.args.faults.now.items c.loop-term.term-index _ c.term-item.result c.loop-term.rest c.in_ok-rest.rest c.loop-term.faults.items c.push_term.new.faults.items c.loop-term-test.true
    c.term-item.is c.in_ok-rest.ensures c.loop-term.invariant

pub push_terms-returns : goal.push_terms-returns
push_terms-returns t c = all_walked c.args.walk.now c.args.terms.now c.args.ahead c.args.faults.now.items c.loop-term.term-index c.loop-term.rest c.loop-term.faults.items c.loop-term-test.false c.loop-term.invariant
