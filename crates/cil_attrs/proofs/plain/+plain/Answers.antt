use Rattle.std.proofs.Common.{sym, ◌∙◌, ap}
use Rattle.cil_syntax.specs.Said.{all_said}
use Rattle.cil_attrs.specs.Plain.{are_plain}
use Rattle.cil_attrs.proofs.PlainLemmas.{class_form, last_plain, next_plain, not_plain, other_form, plain_leaf, plain_name}
use Rattle.cil_attrs.proofs.plain.+plain.Goals as goal

pub are_plain-returns-then-not-is_plain : goal.are_plain-returns-then-not-is_plain
are_plain-returns-then-not-is_plain t c m =
    sym (not_plain m c.args.parts.now c.loop-part.part-index c.part-item.result c.loop-part-test.true c.part-item.is (sym (c.is_plain.ensures m) ∙ c.if-not-is_plain.true)) ∙ c.loop-part.invariant m

pub are_plain-loop-part-preserved : goal.are_plain-loop-part-preserved
are_plain-loop-part-preserved t c m =
    sym (next_plain m c.args.parts.now c.loop-part.part-index c.part-item.result c.loop-part-test.true c.part-item.is (sym (c.is_plain.ensures m) ∙ c.if-not-is_plain.false)) ∙ c.loop-part.invariant m

pub are_plain-returns : goal.are_plain-returns
are_plain-returns t c m = sym (last_plain m c.args.parts.now c.loop-part.part-index c.loop-part-test.false) ∙ c.loop-part.invariant m

pub is_plain-returns-then-is_class_list : goal.is_plain-returns-then-is_class_list
is_plain-returns-then-is_class_list t c m = class_form m c.args.term.now _ _ _ c.in-Form.is (sym c.is_class_list.ensures.list ∙ c.if-is_class_list.true)

pub is_plain-returns-in-Leaf : goal.is_plain-returns-in-Leaf
is_plain-returns-in-Leaf t c m = sym (plain_leaf m c.args.term.now c.in-Leaf.field-0 c.in-Leaf.is)

pub is_plain-returns-in-Name : goal.is_plain-returns-in-Name
is_plain-returns-in-Name t c m = sym (plain_name m c.args.term.now _ _ c.in-Name.is)

pub is_plain-returns-else-is_class_list : goal.is_plain-returns-else-is_class_list
is_plain-returns-else-is_class_list t c m =
    c.are_plain.ensures m ∙ ap (λ ts. are_plain (all_said m ts)) c.as_slice.ensures.value ∙ other_form m c.args.term.now _ _ _ c.in-Form.is (sym c.is_class_list.ensures.list ∙ c.if-is_class_list.false)
