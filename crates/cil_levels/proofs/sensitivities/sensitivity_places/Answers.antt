use Rattle.std.specs.Prelude.{Some, slice_get}
use Rattle.std.proofs.Common.{◌≡◌, ◌∙◌, List, ℕ, ap, arith, get_or, length, refl, subst, sym}
use Rattle.cil_base.specs.Places.{is_there}
use Rattle.cil_syntax.specs.declared.kind.Keyword.TheVariants as keywords
use Rattle.cil_syntax.specs.declared.kind.Kind.TheVariants as kinds
use Rattle.cil_macros.specs.Items.{items_in}
use Rattle.cil_known.specs.Members.{space_of}
use Rattle.cil_known.specs.Numbers.{names_of}
use Rattle.cil_mls.specs.attrs.Members.{AreMembers}
use Rattle.cil_mls.specs.Ordering.{AreNumbered}
use Rattle.cil_mls.proofs.OrderSpaces.{sensitivities_space}
use Rattle.cil_levels.specs.Begun.{AreInverse, AreOnce}
use Rattle.cil_levels.specs.Sensitivities.{ArePlacesOfNumbers}
use Rattle.cil_levels.proofs.PlaceLemmas.{are_few, are_once, number_within}
use Rattle.cil_levels.proofs.SensitivityLemmas.{are_places}
use Rattle.cil_levels.proofs.sensitivities.sensitivity_places.Goals as goal

pub members-requires-clause-known : goal.members-requires-clause-known
members-requires-clause-known c = (names_of c.args.sections.now, space_of kinds.Sensitivity, record { known = c.requires.known; is_space = sensitivities_space; named = sym c.as_slice-names.ensures.value })

numbered : (c : goal.In_ok-standing) → AreNumbered c.args.known.now (items_in c.args.instances.now) (names_of c.args.sections.now) kinds.Sensitivity c.args.sections.now.sensitivities.items c.in_ok-standing.standing.items
numbered c =
    let k = c.args.known.now in
    let xs = items_in c.args.instances.now in
    let sections = names_of c.args.sections.now in
    let policy = c.in-Ok.ensures sections (space_of kinds.Sensitivity) (record { known = c.requires.known; is_space = sensitivities_space; named = sym c.as_slice-names.ensures.value }) in
    let stand = c.in_ok-standing.ensures k xs sections kinds.Sensitivity c.requires.known refl (subst (AreMembers k xs sections (space_of kinds.Sensitivity)) (sym c.held.ensures) policy.0) (ap length c.as_slice-names.ensures.value) in
    record { known = c.requires.known; named = refl; standing = stand.0 }

pub inverse_of-requires-clause-within : goal.inverse_of-requires-clause-within
inverse_of-requires-clause-within c = λ i d below.
    let k = c.args.known.now in
    let order = c.as_slice-order.result.now in
    let names = c.args.sections.now.sensitivities.items in
    let numbers = c.args.orders.now.sensitivities.items in
    let at : slice_get numbers i ≡ Some (get_or order i d) = ap (λ l. slice_get l i) (sym c.as_slice-order.ensures.value) ∙ is_there order i d below in
    let low =
    number_within k (items_in c.args.instances.now) (names_of c.args.sections.now) kinds.Sensitivity names c.in_ok-standing.standing.items (numbered c) refl c.requires.apart keywords.SensitivityOrder numbers c.requires.orders.of_sensitivities i (get_or order i d) at in
    let len = ap length c.as_slice-names.ensures.value in
    omega (arith, low, len)

pub inverse_of-requires-clause-once : goal.inverse_of-requires-clause-once
inverse_of-requires-clause-once c =
    subst AreOnce (sym c.as_slice-order.ensures.value)
    (are_once c.args.known.now (items_in c.args.instances.now) (names_of c.args.sections.now) kinds.Sensitivity c.args.sections.now.sensitivities.items c.in_ok-standing.standing.items (numbered c) refl c.requires.apart keywords.SensitivityOrder
    c.args.orders.now.sensitivities.items c.requires.orders.of_sensitivities)

pub inverse_of-requires-clause-few : goal.inverse_of-requires-clause-few
inverse_of-requires-clause-few c =
    let few =
    are_few c.args.known.now (items_in c.args.instances.now) (names_of c.args.sections.now) kinds.Sensitivity c.args.sections.now.sensitivities.items c.in_ok-standing.standing.items (numbered c) refl c.requires.apart keywords.SensitivityOrder
    c.args.orders.now.sensitivities.items c.requires.orders.of_sensitivities in
    let most = c.requires.orders.few_sensitivities in
    let len = ap length c.as_slice-order.ensures.value in
    omega (arith, few, most, len)

pub returns : goal.returns
returns c = λ o.
    let k = c.args.known.now in
    let xs = items_in c.args.instances.now in
    let sections = names_of c.args.sections.now in
    let names = c.args.sections.now.sensitivities.items in
    let numbers = c.args.orders.now.sensitivities.items in
    let policy = c.in-Ok.ensures sections (space_of kinds.Sensitivity) (record { known = c.requires.known; is_space = sensitivities_space; named = sym c.as_slice-names.ensures.value }) in
    let stand = c.in_ok-standing.ensures k xs sections kinds.Sensitivity c.requires.known refl (subst (AreMembers k xs sections (space_of kinds.Sensitivity)) (sym c.held.ensures) policy.0) (ap length c.as_slice-names.ensures.value) in
    let are : AreNumbered k xs sections kinds.Sensitivity names c.in_ok-standing.standing.items = record { known = c.requires.known; named = refl; standing = stand.0 } in
    let inverse : AreInverse numbers c.in_ok-places.places.items = subst (λ (l : List ℕ). AreInverse l c.in_ok-places.places.items) c.as_slice-order.ensures.value c.in_ok-places.ensures.inverse in
    let each : ArePlacesOfNumbers c.in_ok-standing.standing.items c.in_ok-places.places.items c.in_ok-kept.kept.items =
    subst (λ (l : List ℕ). ArePlacesOfNumbers c.in_ok-standing.standing.items l c.in_ok-kept.kept.items) c.as_slice-2.ensures.value
    (subst (λ (l : List (List ℕ)). ArePlacesOfNumbers l c.as_slice-2.result.now c.in_ok-kept.kept.items) c.as_slice.ensures.value c.in_ok-kept.ensures) in
    are_places k xs sections names c.in_ok-standing.standing.items are c.requires.apart numbers o.of_sensitivities c.in_ok-places.places.items inverse c.in_ok-kept.kept.items each
