use Rattle.std.proofs.Common.{sym, subst}
use Rattle.cil_base.specs.Places.{get_contains}
use Rattle.cil_blocks.specs.declared.places.Place.{Place}
use Rattle.cil_blocks.specs.Placing.{AreChosen}
use Rattle.cil_blocks.proofs.PlaceLemmas.{kept_more, last_more, none_chosen, one_longer, place_more}
use Rattle.cil_blocks.proofs.places.Places.push_inside.Goals as goal

pub invariant_of-self-in_err-push-2 : goal.invariant_of-self-in_err-push-2
invariant_of-self-in_err-push-2 c =
    let kept = c.self.inside.kept.items in
    let p : Place = record { space = c.args.inside.space; outer = c.in-Some.outer; written = c.args.inside.written } in
    subst (AreChosen c.push.new.self.items) (sym c.in_err-push-2.ensures.same)
    (kept_more kept c.push.new.self.items p c.self.inside.which c.self.invariant c.in_ok-push.ensures.items
    (c.self.invariant.upto c.in-Some.outer (get_contains c.self.inside.which c.args.rank c.in-Some.outer (sym c.in-Some.ensures))))

pub invariant_of-self-2 : goal.invariant_of-self-2
invariant_of-self-2 c =
    let kept = c.self.inside.kept.items in
    let p : Place = record { space = c.args.inside.space; outer = c.in-Some.outer; written = c.args.inside.written } in
    last_more kept c.push.new.self.items p c.self.inside.which c.push-2.new.self c.len.result c.self.invariant c.in_ok-push.ensures.items
    (one_longer kept c.push.new.self p c.len.result c.in_ok-push.ensures.items c.len.ensures) c.in_ok-push-2.ensures.pushed
    (c.self.invariant.upto c.in-Some.outer (get_contains c.self.inside.which c.args.rank c.in-Some.outer (sym c.in-Some.ensures)))

pub returns-in_default : goal.returns-in_default
returns-in_default c = λ r e. absurd (none_chosen c.self.inside.kept.items c.self.inside.which c.args.rank r (sym c.in_default.ensures) (rw (← c.self.view_is) at e))

pub returns : goal.returns
returns c = λ r e.
    let kept = c.self.inside.kept.items in
    let p : Place = record { space = c.args.inside.space; outer = c.in-Some.outer; written = c.args.inside.written } in
    rw (← c.self.view_is)
    (place_more kept c.push.new.self.items p c.self.inside.which c.push-2.new.self c.args.rank c.len.result r c.self.invariant c.in_ok-push.ensures.items
    (one_longer kept c.push.new.self p c.len.result c.in_ok-push.ensures.items c.len.ensures) c.in_ok-push-2.ensures.pushed
    (c.self.invariant.upto c.in-Some.outer (get_contains c.self.inside.which c.args.rank c.in-Some.outer (sym c.in-Some.ensures)))
    (sym c.in-Some.ensures) (rw (← c.self.view_is) at e))
