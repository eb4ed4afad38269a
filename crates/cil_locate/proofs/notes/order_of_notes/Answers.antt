use Rattle.std.proofs.Common.{◌∙◌, ◌∷◌, ◌++◌, [], ap, length, subst}
use Rattle.std.specs.Prelude.{Contains}
use Rattle.cil_base.specs.Lists.{Lists}
use Rattle.cil_locate.specs.Located.{key_of_note}
use Rattle.cil_locate.specs.Order.{told_cmp}
use Rattle.cil_locate.proofs.OrderLemmas.{all_numbered, none_numbered, numbered_more}
use Rattle.cil_locate.proofs.notes.order_of_notes.Goals as goal

pub loop-line-init : goal.loop-line-init
loop-line-init c = c.in_ok-told.ensures.items ∙ none_numbered (key_of_note c.args.origins.now) c.args.lines.now

pub loop-line-preserved : goal.loop-line-preserved
loop-line-preserved c =
    numbered_more (key_of_note c.args.origins.now) c.args.lines.now _ _ c.loop-line.line-index c.line-item.result c.loop-line-test.true c.line-item.is
    c.loop-line.invariant
    (c.in_ok-push_told.ensures ∙ ap (λ o. c.loop-line.told.items ++ record { origin = o; at = c.line-item.result.at; number = length c.loop-line.told.items } ∷ []) c.origin_of.ensures)

pub returns : goal.returns
returns c =
    subst (λ all. Lists told_cmp (Contains all) c.in_order.result.items)
    (all_numbered (key_of_note c.args.origins.now) c.args.lines.now _ c.loop-line.line-index c.loop-line-test.false c.loop-line.invariant) c.in_order.ensures
