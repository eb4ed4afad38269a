use Rattle.std.proofs.Common.{◌≡◌, ◌++◌, ap, map, refl, subst, sym, ◌∙◌}
use Rattle.cil_syntax.specs.Said.{all_said, args_of, said_of}
use Rattle.cil_macros.proofs.FormLemmas.{across, all_across}
use Rattle.cil_classes.specs.known.Known.{enabled_in, value_in}
use Rattle.cil_classes.proofs.names_lemmas.ReadingLemmas.{plain_said}
use Rattle.cil_classes.proofs.AlikeLemmas.{like_args, row_alike, with_args}
use Rattle.cil_classes.specs.Perms.{AreMasksOf}
use Rattle.cil_constraints.specs.Stated.{constraint_with}
use Rattle.cil_constraints.proofs.AlikeLemmas.{behind_like}
use Rattle.cil_constraints.proofs.GatherLemmas.{constraint_plain}
use Rattle.cil_constraints.proofs.StatedLemmas.{are_two, first_begins, is_made, none_behind, not_made, not_two, second_begins, some_behind, without_term}
use Rattle.cil_constraints.proofs.statement.push_stated.Goals as goal

pub returns-then-parts-ne2 : goal.returns-then-parts-ne2
returns-then-parts-ne2 c = λ x f alike xs constraining enabled names known apart standing classes given row.
    let k = c.args.known.now in
    let s = c.args.statement.now in
    let m = s.at.«module» in
    let ts = all_across f (args_of s) in
    let y = with_args x ts in
    behind_like xs (enabled_in k) names c.args.classes.now x y (like_args x ts alike) _ _
    (none_behind _ _ _ _ (not_two xs k y f (args_of s) refl m c.as_slice-parts.result.now (ap (all_said m) (sym c.as_slice-parts.ensures.value)) c.if-parts-ne2.true))

pub returns-then-not-made : goal.returns-then-not-made
returns-then-not-made c = λ x f alike xs constraining enabled names known apart standing classes given row.
    let k = c.args.known.now in
    let s = c.args.statement.now in
    let m = s.at.«module» in
    let ts = all_across f (args_of s) in
    let y = with_args x ts in
    let two = ap (all_said m) (sym c.as_slice-parts.ensures.value)
    ∙ are_two m c.as_slice-parts.result.now c.index-parts-0.result c.index-parts-1.result _ _ c.if-parts-ne2.false c.index-parts-0.is c.index-parts-1.is in
    let unsaid = not_made c.in_ok-made.made c.args.sets.now m c.index-parts-1.result _ _ c.if-not-made.true c.in_ok-made.ensures in
    behind_like xs (enabled_in k) names c.args.classes.now x y (like_args x ts alike) _ _
    (none_behind _ _ _ _ (without_term xs k y f (args_of s) refl (said_of m c.index-parts-0.result) (said_of m c.index-parts-1.result) two (unsaid f)))

pub returns : goal.returns
returns c = λ x f alike xs constraining enabled names known apart standing classes given row.
    let k = c.args.known.now in
    let s = c.args.statement.now in
    let m = s.at.«module» in
    let ts = all_across f (args_of s) in
    let y = with_args x ts in
    let are = row ∙ row_alike k x ts alike ∙ ap (map (value_in k)) (plain_said y.keyword y.args (constraint_plain xs (enabled_in k) x.keyword constraining)) in
    let two = ap (all_said m) (sym c.as_slice-parts.ensures.value)
    ∙ are_two m c.as_slice-parts.result.now c.index-parts-0.result c.index-parts-1.result _ _ c.if-parts-ne2.false c.index-parts-0.is c.index-parts-1.is in
    let class_permission = said_of m c.index-parts-0.result in
    let term = said_of m c.index-parts-1.result in
    let made = is_made c.in_ok-made.made c.args.sets.now m c.index-parts-1.result _ _ c.if-not-made.false c.in_ok-made.ensures in
    let says = made.put.says k xs names f known standing (second_begins k y f (args_of s) refl class_permission term two c.args.words.now are c.behind-of_term.result.now (c.behind-of_term.ensures f)) in
    let added = c.in_ok-push_perms.ensures xs names f known apart classes given (first_begins k y f (args_of s) refl class_permission term two c.args.words.now are) in
    let only : c.push_perms.new.out.items ≡ added.masks = added.behind ∙ ap (λ l. l ++ added.masks) c.clear.ensures.items in
    let steps = c.make_steps.new.steps.items in
    behind_like xs (enabled_in k) names c.args.classes.now x y (like_args x ts alike) _ _
    (some_behind xs k y f (args_of s) refl class_permission term two names known apart c.args.classes.now steps says.0 says.1 made.put.tree says.2 made.put.behind c.push_perms.new.out.items
    (subst (AreMasksOf xs (enabled_in k) c.args.classes.now (across f class_permission)) (sym only) added.are) constraining enabled c.args.out.now.items c.push_each.new.out.items
    (c.in_ok-push_each.ensures ∙ (λ i. c.args.out.now.items ++ map (constraint_with (c.as_slice-2.ensures.value i)) (c.as_slice.ensures.value i))))
