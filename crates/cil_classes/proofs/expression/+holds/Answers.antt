use Rattle.std.specs.Prelude.{◌&&◌, ◌||◌}
use Rattle.std.proofs.Common.{◌∙◌, ap, subst, sym}
use Rattle.cil_syntax.specs.Expressions.{differ}
use Rattle.cil_names.specs.Unresolved.{terms_with}
use Rattle.cil_known.proofs.LeafLemmas.{all_leaves, behind_more, behind_none}
use Rattle.cil_classes.specs.Numbers.{AreNumbered, IsTallied}
use Rattle.cil_classes.proofs.ValueLemmas.{form_held, leaf_held, name_held, none_tallied, numbered_form, numbered_part, tallied_all, tallied_more}
use Rattle.cil_classes.proofs.expression.+holds.Goals as goal

pub tallied-loop-part-init : goal.tallied-loop-part-init
tallied-loop-part-init t c = (λ m. behind_none m c.args.words.now, λ f m permissions rising are p at. none_tallied f m p)

pub tallied-loop-part-preserved : goal.tallied-loop-part-preserved
tallied-loop-part-preserved t c = (
  λ m. behind_more m c.args.words.now c.args.parts.now _ c.part-item.result _ _ c.loop-part-test.true c.part-item.is (c.loop-part.invariant.0 m) (c.behind_word-rest.ensures m),
  λ f m permissions rising are p at.
      let one = c.holds.ensures f m permissions rising (numbered_part permissions f m c.args.parts.now c.loop-part.part-index c.part-item.result c.args.words.now _ c.loop-part-test.true c.part-item.is are
      (c.loop-part.invariant.0 m)) p at in
      tallied_more f m p c.args.parts.now c.loop-part.part-index c.part-item.result _ _ _ _ _ _ c.loop-part-test.true c.part-item.is (c.loop-part.invariant.1 f m permissions rising are p at)
      (c.with-all.ensures.some ∙ ap (λ b. c.loop-part.all.some || b) one) (c.with-all.ensures.each ∙ ap (λ b. c.loop-part.all.each && b) one) (c.with-all.ensures.odd ∙ ap (differ c.loop-part.all.odd) one),
)

pub tallied-returns : goal.tallied-returns
tallied-returns t c = λ f m permissions rising are p at.
    tallied_all f m p c.args.parts.now c.loop-part.part-index _ _ _ c.loop-part-test.false (c.loop-part.invariant.1 f m permissions rising are p at)

pub holds-returns-in-Leaf : goal.holds-returns-in-Leaf
holds-returns-in-Leaf t c = λ f m permissions rising are p at.
    leaf_held f m p permissions c.args.number c.args.term.now c.in-Leaf.field-0 c.args.words.now c.meaning_at.result _ rising at c.in-Leaf.is are c.meaning_at.ensures c.is_same.ensures

pub holds-returns-in-Name : goal.holds-returns-in-Name
holds-returns-in-Name t c = λ f m permissions rising are p at. name_held f m p c.args.term.now _ _ c.in-Name.is

pub holds-returns-in-Form : goal.holds-returns-in-Form
holds-returns-in-Form t c = λ f m permissions rising are p at.
    let counts = c.tallied.ensures f m permissions rising (subst (λ l. AreNumbered permissions f (all_leaves m l) c.args.words.now) (sym c.as_slice.ensures.value) (numbered_form permissions f m c.args.term.now _ _
    c.in-Form.parts c.args.words.now c.in-Form.is are)) p at in
    c.combined.ensures
    ∙ form_held f m p c.args.term.now _ c.in-Form.op c.in-Form.parts _ _ _ c.in-Form.is (subst (λ l. IsTallied p (terms_with f m l) c.tallied.result.some c.tallied.result.each c.tallied.result.odd) c.as_slice.ensures.value counts)
