use Rattle.std.proofs.Common.{subst, sym}
use Rattle.cil_attrs.specs.declared.evaluator.Held.TheVariants.{Nothing}
use Rattle.cil_attrs.specs.Standing.{AreBelow}
use Rattle.cil_attrs.proofs.StandingLemmas.{nothing_below, set_below}
use Rattle.cil_attrs.proofs.standing.below.Goals as goal

pub returns-in-Nothing : goal.returns-in-Nothing
returns-in-Nothing c = λ items all. rw c.in-Nothing.is (subst (AreBelow items Nothing) (sym c.new.ensures) (nothing_below items c.args.all.now all))

pub returns-in_ok-one-in-Item : goal.returns-in_ok-one-in-Item
returns-in_ok-one-in-Item c = λ items all. rw c.in-Item.is (c.in_ok-one-in-Item.ensures items all)

pub returns-in_ok-both-in-Set : goal.returns-in_ok-both-in-Set
returns-in_ok-both-in-Set c = λ items all. rw c.in-Set.is (set_below items c.args.all.now all _ _ c.in_ok-both-in-Set.ensures)
