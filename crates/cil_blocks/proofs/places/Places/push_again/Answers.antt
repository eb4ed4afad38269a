use Rattle.std.proofs.Common.{sym}
use Rattle.cil_base.specs.Places.{get_contains}
use Rattle.cil_blocks.proofs.PlaceLemmas.{again_more, chosen_more, none_chosen}
use Rattle.cil_blocks.proofs.places.Places.push_again.Goals as goal

pub invariant_of-self : goal.invariant_of-self
invariant_of-self c =
    let so = c.self.invariant in
    chosen_more c.self.inside.kept.items c.self.inside.which c.push.new.self c.in-Some.which so
    (so.upto c.in-Some.which (get_contains c.self.inside.which c.args.rank c.in-Some.which (sym c.in-Some.ensures))) c.in_ok-push.ensures.pushed

pub returns-in_ok-push : goal.returns-in_ok-push
returns-in_ok-push c = λ p e.
    rw (← c.self.view_is) (again_more c.self.inside.kept.items c.self.inside.which c.push.new.self c.args.rank c.in-Some.which p (sym c.in-Some.ensures) c.in_ok-push.ensures.pushed
    (rw (← c.self.view_is) at e))

pub returns-in_default : goal.returns-in_default
returns-in_default c = λ p e. absurd (none_chosen c.self.inside.kept.items c.self.inside.which c.args.rank p (sym c.in_default.ensures) (rw (← c.self.view_is) at e))
