use Rattle.std.proofs.lemmas.Result.{IfOk-from_err}
use Rattle.cil_classes.specs.Givings.{IsGivingOf}
use Rattle.cil_classes.proofs.GivensLemmas.{given_recorded, has_a_place}
use Rattle.cil_classes.proofs.givens.given_of.Goals as goal

pub returns-in_default : goal.returns-in_default
returns-in_default c = λ xs names known apart classes nodes all x f among is. rw c.in_default.is at is

pub returns-in_default-place_of : goal.returns-in_default-place_of
returns-in_default-place_of c = λ xs names known apart classes nodes all x f among is.
    let own : IsGivingOf c.args.known.now xs f x c.in-Some.giving = rw c.in-Some.is at is in
    λ g gives. has_a_place c.args.known.now xs names known c.args.classes.now c.args.nodes.now f x _ own all among c.in_default-place_of.ensures.none

pub returns : goal.returns
returns c = λ xs names known apart classes nodes all x f among is.
    let own : IsGivingOf c.args.known.now xs f x c.in-Some.giving = rw c.in-Some.is at is in
    given_recorded c.args.known.now xs names known c.args.classes.now c.args.nodes.now f x _ own _ c.in-Some-place_of.ensures.found (c.in_ok-part.ensures xs names f known apart classes nodes own.begin)

pub returns-in_err-part : goal.returns-in_err-part
returns-in_err-part c = IfOk-from_err c.from_residual.result _ c.from_residual.ensures.0
