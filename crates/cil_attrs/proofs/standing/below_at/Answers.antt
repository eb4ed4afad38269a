use Rattle.std.proofs.Common.{refl, subst, sym, ◌∙◌}
use Rattle.std.proofs.lemmas.Option.{none-some, same_Some}
use Rattle.cil_base.proofs.AtPlace.{at_place, past_end}
use Rattle.cil_attrs.specs.declared.evaluator.Held.{Held}
use Rattle.cil_attrs.specs.Standing.{AreBelow}
use Rattle.cil_attrs.proofs.standing.below_at.Goals as goal

pub returns-in_default : goal.returns-in_default
returns-in_default c = λ items h all at. absurd (none-some h (sym (past_end c.args.held.now c.args.held.now c.args.d refl c.in_default.ensures.lookup.3) ∙ at))

pub returns : goal.returns
returns c = λ items h all at.
    let there = at_place c.args.held.now c.args.held.now c.args.d refl c.in-Some.one.now c.in-Some.ensures.lookup.3.0 c.in-Some.ensures.lookup.1 in
    subst (λ (x : Held). AreBelow items x c.in_ok-set.set) (same_Some c.in-Some.one.now h (sym there ∙ at)) (c.in_ok-set.ensures items all)
