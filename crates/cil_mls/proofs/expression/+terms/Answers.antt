use Rattle.std.proofs.Common.{◌∙◌, refl, ap}
use Rattle.cil_syntax.specs.Said.{all_said}
use Rattle.cil_mls.specs.Values.{is_held, meant_held}
use Rattle.cil_mls.proofs.ValueLemmas.{all_joined, all_left, form_valued, formed_between, formed_everything, formed_joined, formed_others, leaf_valued, name_valued, one_less}
use Rattle.cil_mls.proofs.expression.+terms.Goals as goal

pub formed-returns-in-Everything : goal.formed-returns-in-Everything
formed-returns-in-Everything t c = λ m g more e.
    formed_everything c.args.by.now.held.now c.args.by.now.count g more (all_said m c.args.parts.now) c.args.how c.joined.result _ c.in-Everything.is (c.joined.ensures m g more e) refl c.first.ensures

pub formed-returns-in-Others : goal.formed-returns-in-Others
formed-returns-in-Others t c = λ m g more e.
    formed_others c.args.by.now.held.now c.args.by.now.count g more (all_said m c.args.parts.now) c.args.how c.joined-some.result _ c.in-Others.is (c.joined-some.ensures m g more e) refl c.others.ensures

pub formed-returns-in-Joined : goal.formed-returns-in-Joined
formed-returns-in-Joined t c = λ m g more e.
    formed_joined c.args.by.now.held.now c.args.by.now.count g more (all_said m c.args.parts.now) c.args.how c.in-Joined.join c.joined-in-Joined.result c.in-Joined.is (c.joined-in-Joined.ensures m g more e)

pub formed-returns-in-Between : goal.formed-returns-in-Between
formed-returns-in-Between t c = λ m g more e.
    formed_between c.args.by.now.held.now c.args.by.now.count g more (all_said m c.args.parts.now) c.args.how c.joined-in-Between.result _ c.in-Between.is (c.joined-in-Between.ensures m g more e) refl (c.span.ensures m g more e)

pub joined-loop-part-init : goal.joined-loop-part-init
joined-loop-part-init t c = all_left c.args.by.now.held.now c.args.by.now.count c.args.join c.args.parts.now c.args.words.now c.start-all.result.words c.start-all.ensures

pub joined-loop-part-preserved : goal.joined-loop-part-preserved
joined-loop-part-preserved t c =
    one_less c.args.by.now.held.now c.args.by.now.count c.args.join c.args.parts.now c.args.words.now c.loop-part.part-index c.loop-part.all.words c.of-all.result.words c.loop-part.rest.now _ c.part-item.result
    c.value-one.result c.loop-part-test.true c.part-item.is c.value-one.ensures c.of-all.ensures c.loop-part.invariant

pub joined-returns : goal.joined-returns
joined-returns t c =
    all_joined c.args.by.now.held.now c.args.by.now.count c.args.join c.args.parts.now c.args.words.now c.loop-part.part-index c.loop-part.all.words _ c.loop-part-test.false c.end.ensures c.loop-part.invariant

pub value-returns-in-Leaf : goal.value-returns-in-Leaf
value-returns-in-Leaf t c = λ m g more e.
    leaf_valued c.args.by.now.held.now c.args.by.now.count m g more c.args.words.now c.args.term.now _ _ c.in-Leaf.is
    (λ k l. c.value_of.ensures k l ∙ ap (is_held k) (c.meant_held.ensures ∙ ap (meant_held c.args.by.now.held.now) c.meaning_at.ensures)) c.behind_first.ensures e

pub value-returns-in-Name : goal.value-returns-in-Name
value-returns-in-Name t c = λ m g more e.
    name_valued c.args.by.now.held.now c.args.by.now.count m g more c.args.words.now c.args.term.now _ _ _ c.in-Name.is refl c.none.ensures e

pub value-returns-in-Form : goal.value-returns-in-Form
value-returns-in-Form t c = λ m g more e.
    form_valued c.args.by.now.held.now c.args.by.now.count m g more c.args.words.now c.args.term.now _ _ _ c.as_slice.result.now c.how_of.result c.formed.result c.in-Form.is c.as_slice.ensures.value c.how_of.ensures
    (c.formed.ensures m g more) e
