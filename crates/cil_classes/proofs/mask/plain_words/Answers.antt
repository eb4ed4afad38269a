use Rattle.std.proofs.Common.{rules, subst, ap, ◌∙◌}
use Rattle.std.specs.Prelude.{take}
use Rattle.cil_classes.specs.Masks.{AreLeaves}
use Rattle.cil_classes.proofs.MaskLemmas.{leaf_plain, union_plain}
use Rattle.cil_classes.proofs.mask.plain_words.Goals as goal

pub returns-in-Leaf : goal.returns-in-Leaf
returns-in-Leaf c = λ m. leaf_plain m c.args.term.now c.in-Leaf.field-0 c.args.words.now _ c.in-Leaf.is c.first.ensures

pub returns-then-are_leaves : goal.returns-then-are_leaves
returns-then-are_leaves c = λ m.
    union_plain m c.args.term.now _ c.in-Form.op c.in-Form.parts c.args.words.now _ c.in-Form.is (c.is_union.ensures.0 c.if-is_union.true) (subst AreLeaves c.as_slice.ensures.value (c.are_leaves.ensures
    c.if-are_leaves.true)) (c.first-then-are_leaves.ensures ∙ ap (λ n. take n c.args.words.now) (search rules))
