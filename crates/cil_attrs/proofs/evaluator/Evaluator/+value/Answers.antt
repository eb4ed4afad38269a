use Rattle.std.proofs.Common.{List, ℕ, ◌∙◌, ◌||◌, sym, ap, drop, get_or, refl}
use Rattle.std.specs.Prelude.{None}
use Rattle.cil_syntax.specs.Said.{all_said, said_of}
use Rattle.cil_base.specs.Among.{among}
use Rattle.cil_attrs.specs.Evaluated.{as_way, ended, folded, has_meant, in_form, in_term, joined_by, test_by}
use Rattle.cil_attrs.proofs.EvaluatedLemmas.{or_none}
use Rattle.cil_attrs.proofs.ValueLemmas.{form_folded, form_row, form_value, last_folded, last_row, leaf_row, leaf_value, name_row, name_value, not_some, part_folded, part_row, union_folded}
use Rattle.cil_attrs.proofs.evaluator.Evaluator.+value.Goals as goal

pub add-returns-in_ok-add_meant-in-Leaf : goal.add-returns-in_ok-add_meant-in-Leaf
add-returns-in_ok-add_meant-in-Leaf t c m g more b =
    let row = leaf_row c.args.self.now.held.now c.args.self.now.all.now g m c.args.term.now c.in-Leaf.field-0 c.args.words.now more c.in-Leaf.is b in (
      c.behind_first.ensures ∙ ap (drop 1) row,
      λ v. c.in_ok-add_meant-in-Leaf.ensures v ∙ ap (λ k. among c.args.set.now v || has_meant c.args.self.now.held.now v k) (c.meaning_at.ensures ∙ ap (λ ws. get_or ws 0 None) row)
          ∙ ap (λ x. among c.args.set.now v || x) (sym (leaf_value c.args.self.now.held.now c.args.self.now.all.now g m v c.args.term.now c.in-Leaf.field-0 c.in-Leaf.is)),
    )

pub add-returns-in-Name : goal.add-returns-in-Name
add-returns-in-Name t c m g more b = (
  name_row c.args.self.now.held.now c.args.self.now.all.now g m c.args.term.now _ _ c.args.words.now more c.in-Name.is b,
  λ v. or_none (among c.args.set.now v) ∙ ap (λ x. among c.args.set.now v || x) (sym (name_value c.args.self.now.held.now c.args.self.now.all.now g m v c.args.term.now _ _ c.in-Name.is)),
)

pub add-returns-in_ok-rest-in-Form : goal.add-returns-in_ok-rest-in-Form
add-returns-in_ok-rest-in-Form t c m g more b =
    let row = form_row c.args.self.now.held.now c.args.self.now.all.now g m c.args.term.now _ _ _ c.args.words.now more c.in-Form.is b in
    let r = rw (c.as_slice.ensures.value, c.way_of.ensures) at (c.in_ok-rest-in-Form.ensures m g more (rw c.as_slice.ensures.value row)) in
    (r.0, λ v. r.1 v ∙ ap (λ x. among c.args.set.now v || x) (sym (form_value c.args.self.now.held.now c.args.self.now.all.now g m v c.args.term.now _ _ _ c.in-Form.is)))

pub add_form-returns-in-SomeOf : goal.add_form-returns-in-SomeOf
add_form-returns-in-SomeOf t c m g more b =
    let r = c.in_ok-rest.ensures m g more b in (
      r.0,
      λ v. r.1 v ∙ union_folded c.args.self.now.held.now c.args.self.now.all.now g v (among c.args.set.now v) (all_said m c.args.parts.now)
          ∙ ap (λ w. among c.args.set.now v || in_form c.args.self.now.held.now c.args.self.now.all.now g v (as_way w) (all_said m c.args.parts.now)) (sym c.in-SomeOf.is),
    )

pub add_form-returns : goal.add_form-returns
add_form-returns t c m g more b =
    let r = c.in_ok-rest-2.ensures m g more b in (
      r.0,
      λ v. c.in_ok-unite.ensures v ∙ ap (λ x. among c.args.set.now v || x) (c.in_ok-value-2.ensures v ∙ ap (ended (as_way c.args.way) (among c.args.self.now.all.now v))
          (r.1 v ∙ ap (λ h. folded c.args.self.now.held.now c.args.self.now.all.now g v h (among c.in_ok-value.value v) (all_said m c.args.parts.now)) c.joining_of.ensures
          ∙ ap (λ x. folded c.args.self.now.held.now c.args.self.now.all.now g v (joined_by (as_way c.args.way)) x (all_said m c.args.parts.now)) (c.in_ok-value.ensures v))
          ∙ form_folded c.args.self.now.held.now c.args.self.now.all.now g v (as_way c.args.way) (all_said m c.args.parts.now) (not_some c.args.way c.in_default.not-SomeOf)),
    )

pub fold-loop-part-init : goal.fold-loop-part-init
fold-loop-part-init t c m g more b = (b, λ v. refl)

pub fold-loop-part-preserved : goal.fold-loop-part-preserved
fold-loop-part-preserved t c m g more b =
    let before = c.loop-part.invariant m g more b in
    let row = part_row c.args.self.now.held.now c.args.self.now.all.now g m c.args.parts.now c.loop-part.part-index c.part-item.result c.loop-part.rest.now more c.loop-part-test.true c.part-item.is before.0 in
    let r = c.in_ok-rest.ensures m g _ row in (
      r.0,
      λ v. part_folded c.args.self.now.held.now c.args.self.now.all.now g m c.args.parts.now c.loop-part.part-index v c.part-item.result c.args.how (among c.loop-part.set v) (among c.turn.new.set v)
          c.loop-part-test.true c.part-item.is (r.1 v) ∙ before.1 v,
    )

pub fold-returns : goal.fold-returns
fold-returns t c m g more b =
    let at_end = c.loop-part.invariant m g more b in (
      last_row c.args.self.now.held.now c.args.self.now.all.now g m c.args.parts.now c.loop-part.part-index c.loop-part.rest.now more c.loop-part-test.false at_end.0,
      λ v. sym (last_folded c.args.self.now.held.now c.args.self.now.all.now g m c.args.parts.now c.loop-part.part-index v c.args.how (among c.loop-part.set v) c.loop-part-test.false) ∙ at_end.1 v,
    )

pub turn-returns-in-Union : goal.turn-returns-in-Union
turn-returns-in-Union t c m g more b =
    let r = c.in_ok-rest.ensures m g more b in
    (r.0, λ v. r.1 v ∙ ap (λ h. test_by h (among c.args.set.now v) (in_term c.args.self.now.held.now c.args.self.now.all.now g v (said_of m c.args.part.now))) (sym c.in-Union.is))

pub turn-returns : goal.turn-returns
turn-returns t c m g more b =
    let r = c.in_ok-rest-2.ensures m g more b in (
      r.0,
      λ v. c.in_ok-joined.ensures v ∙ ap (λ x. test_by c.args.how (among c.args.set.now v) x) (r.1 v
          ∙ ap (λ (xs : List ℕ). among xs v || in_term c.args.self.now.held.now c.args.self.now.all.now g v (said_of m c.args.part.now)) c.new-value.ensures),
    )
