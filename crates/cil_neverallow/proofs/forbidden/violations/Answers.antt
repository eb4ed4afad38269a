use Rattle.std.proofs.Common.{◌≡◌, ◌∙◌, [], length, refl, subst, sym}
use Rattle.cil_macros.specs.Items.{item_at, items_in}
use Rattle.cil_macros.proofs.ItemLemmas.{item_there}
use Rattle.cil_neverallow.specs.Stated.{AreStatements}
use Rattle.cil_neverallow.proofs.StatementLemmas.{each_kept, no_items}
use Rattle.cil_neverallow.proofs.TieLemmas.{none_forbidden}
use Rattle.cil_neverallow.proofs.forbidden.violations.Goals as goal

pub returns-then-len-eq0 : goal.returns-then-len-eq0
returns-then-len-eq0 c = λ names known apart standing classes given same.
    let i = c.args.instances.now in
    let k = c.args.known.now in
    let v = c.args.view.now in
    let none : c.in_ok-forbidden.forbidden ≡ [] = no_items c.in_ok-forbidden.forbidden (sym c.len.ensures ∙ c.if-len-eq0.true) in (
      tt,
      λ f. none_forbidden k (items_in i) names known apart v same classes (item_at i) (item_there i) f
          (subst (AreStatements _ _ v.sets.now (item_at i) (length (items_in i))) none
          (each_kept _ _ v.sets.now (item_at i) _ (length (items_in i)) c.in_ok-forbidden.forbidden refl (c.in_ok-forbidden.ensures.statements names known apart standing classes given))),
    )

pub returns : goal.returns
returns c = λ names known apart standing classes given same.
    let i = c.args.instances.now in
    c.check.ensures names known apart standing classes given same
    (each_kept _ _ c.args.view.now.sets.now (item_at i) _ (length (items_in i)) c.in_ok-forbidden.forbidden refl (c.in_ok-forbidden.ensures.statements names known apart standing classes given))
