use Rattle.std.proofs.Common.{rules}
use Rattle.std.specs.Ordering.{nat_cmp}
use Rattle.std.proofs.lemmas.Fn.{always_returns_same}
use Rattle.cil_conditions.specs.declared.branches.Place.{Place}
use Rattle.cil_conditions.proofs.FindLemmas.{found_there, missing_there}
use Rattle.cil_conditions.proofs.PlaceLemmas.{place_searched}
use Rattle.cil_conditions.proofs.branches.place_at.Goals as goal

pub returns-in-Ok : goal.returns-in-Ok
returns-in-Ok c =
    found_there (λ (p : Place). p.at) c.args.at c.args.places.now c.in-Ok.number _
    (rw c.in-Ok.is at (place_searched c.args.places.now c.args.at c.binary_search_by.result c.requires c.binary_search_by.ensures.bound
    (c.binary_search_by.ensures.position (λ p. nat_cmp p.at c.args.at) (always_returns_same _ _ _ (λ a r f' k. search rules)))))

pub returns-in-Err : goal.returns-in-Err
returns-in-Err c =
    missing_there (λ (p : Place). p.at) c.args.at c.args.places.now
    (rw c.in-Err.is at (place_searched c.args.places.now c.args.at c.binary_search_by.result c.requires c.binary_search_by.ensures.bound
    (c.binary_search_by.ensures.position (λ p. nat_cmp p.at c.args.at) (always_returns_same _ _ _ (λ a r f' k. search rules)))))
