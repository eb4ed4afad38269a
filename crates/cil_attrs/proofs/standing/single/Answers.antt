use Rattle.std.proofs.Common.{◌≡◌, ◌⊎◌, ◌∙◌, subst, sym}
use Rattle.std.specs.Prelude.{Contains}
use Rattle.std.specs.Ordering.{nat_cmp}
use Rattle.std.proofs.lemmas.Bool.{true≢false}
use Rattle.cil_base.specs.Lists.{Lists}
use Rattle.cil_attrs.specs.declared.evaluator.Held.TheVariants.{Item as HeldItem}
use Rattle.cil_attrs.specs.Standing.{AreBelow}
use Rattle.cil_attrs.proofs.StandingLemmas.{number_below, other_below}
use Rattle.cil_attrs.proofs.standing.single.Goals as goal

pub returns-then-not-contains : goal.returns-then-not-contains
returns-then-not-contains c = λ items below.
    subst (AreBelow items (HeldItem c.args.number)) (sym c.new.ensures)
    (other_below items c.args.all.now below c.args.number (λ d. true≢false (sym (c.contains.ensures.1 d) ∙ c.if-not-contains.true)))

pub returns : goal.returns
returns c = λ items below.
    number_below items c.args.all.now below c.args.number c.add.new.self (c.contains.ensures.0 c.if-not-contains.false)
    (subst (λ old. Lists nat_cmp (λ v. Contains old v ⊎ (v ≡ c.args.number)) c.add.new.self) c.new-set.ensures c.in_ok-add.ensures.added)
