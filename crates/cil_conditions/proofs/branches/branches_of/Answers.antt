use Rattle.cil_conditions.proofs.PlaceLemmas.{branches_are, places_rise, placed_so}
use Rattle.cil_conditions.proofs.branches.branches_of.Goals as goal

pub invariant_of-result : goal.invariant_of-result
invariant_of-result c = (
  c.in_ok-rows.ensures.rising,
  places_rise c.in_ok-rows.rows.items c.in_ok-found.found.items c.in_ok-places.places.items
      (placed_so _ _ _ _ c.in_ok-places.places.items c.as_slice-2.ensures.value c.as_slice-3.ensures.value c.in_ok-places.ensures) c.in_ok-found.ensures.rise,
)

pub returns : goal.returns
returns c =
    branches_are c.args.instances.now c.args.known.now c.in_ok-rows.rows.items c.in_ok-found.found.items c.in_ok-places.places.items c.in_ok-rows.ensures.rising c.in_ok-found.ensures
    (placed_so _ _ _ _ c.in_ok-places.places.items c.as_slice-2.ensures.value c.as_slice-3.ensures.value c.in_ok-places.ensures)
