use Rattle.std.proofs.Common.{◌∙◌, ◌||◌, ap, refl}
use Rattle.std.specs.List.{list_any}
use Rattle.std.proofs.lemmas.List.{take_all}
use Rattle.cil_base.specs.Places.{contains_at}
use Rattle.cil_attrs.specs.Made.{held_at, is_made_by}
use Rattle.cil_attrs.proofs.MadeLemmas.{none_made, one_made, sets_stay}
use Rattle.cil_attrs.proofs.making.made.Goals as goal

pub loop-given-init : goal.loop-given-init
loop-given-init c = (refl, c.requires.sets, λ g meanings d v. none_made c.args.all.now g c.args.begun.items d v)

pub give-requires : goal.give-requires
give-requires c =
    c.loop-given.invariant.1 c.given-item.result (contains_at c.args.givens.now c.loop-given.given-index c.given-item.result c.given-item.result c.loop-given-test.true c.given-item.is)

pub loop-given-preserved : goal.loop-given-preserved
loop-given-preserved c =
    let given = c.in_ok-give.ensures in (
      given.len ∙ c.loop-given.invariant.0,
      sets_stay c.args.all.now c.args.givens.now c.loop-given.held.items c.give.new.held.items c.given-item.result given c.loop-given.invariant.1,
      λ g meanings. one_made c.args.all.now g c.args.givens.now meanings c.requires.order c.loop-given.given-index c.given-item.result c.loop-given-test.true c.given-item.is c.args.begun.items c.loop-given.held.items c.give.new.held.items given (c.loop-given.invariant.2 g meanings),
    )

pub returns : goal.returns
returns c = record {
  len = c.loop-given.invariant.0;
  given = λ g meanings d v.
      c.loop-given.invariant.2 g meanings d v
      ∙ ap (λ ys. held_at c.args.begun.items d v || list_any (is_made_by g c.loop-given.held.items c.args.all.now d v) ys) (take_all c.loop-given.given-index c.args.givens.now c.loop-given-test.false);
}
