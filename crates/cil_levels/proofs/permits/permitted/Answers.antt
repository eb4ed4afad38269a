use Rattle.std.specs.Prelude.{Some, slice_get}
use Rattle.std.proofs.Common.{◌≡◌, ◌∙◌, List, ℕ, ap, arith, get_or, length, refl, subst, sym}
use Rattle.cil_base.specs.Places.{is_there}
use Rattle.cil_syntax.specs.declared.kind.Keyword.TheVariants as keywords
use Rattle.cil_syntax.specs.declared.kind.Kind.TheVariants as kinds
use Rattle.cil_macros.specs.Items.{items_in}
use Rattle.cil_known.specs.Members.{space_of}
use Rattle.cil_known.specs.Numbers.{names_of}
use Rattle.cil_mls.specs.attrs.Members.{AreMembers}
use Rattle.cil_mls.specs.Ordering.{AreNumbered}
use Rattle.cil_mls.proofs.OrderSpaces.{sensitivities_space}
use Rattle.cil_levels.specs.Begun.{AreInverse, AreOnce}
use Rattle.cil_levels.specs.Permits.{HaveMore, PermitsAmong}
use Rattle.cil_levels.proofs.PermitLemmas.{are_permitted}
use Rattle.cil_levels.proofs.PlaceLemmas.{are_few, are_once, number_within}
use Rattle.cil_levels.proofs.permits.permitted.Goals as goal

pub members-requires-clause-known : goal.members-requires-clause-known
members-requires-clause-known c = (names_of c.args.sections.now, space_of kinds.Sensitivity, record { known = c.requires.known; is_space = sensitivities_space; named = sym c.as_slice-names.ensures.value })

numbered : (c : goal.In_ok-standing) → AreNumbered c.args.known.now (items_in c.args.instances.now) (names_of c.args.sections.now) kinds.Sensitivity c.args.sections.now.sensitivities.items c.in_ok-standing.standing.items
numbered c =
    let k = c.args.known.now in
    let xs = items_in c.args.instances.now in
    let sections = names_of c.args.sections.now in
    let policy = c.in-Ok.ensures sections (space_of kinds.Sensitivity) (record { known = c.requires.known; is_space = sensitivities_space; named = sym c.as_slice-names.ensures.value }) in
    let stand = c.in_ok-standing.ensures k xs sections kinds.Sensitivity c.requires.known refl (subst (AreMembers k xs sections (space_of kinds.Sensitivity)) (sym c.held.ensures) policy.0) (ap length c.as_slice-names.ensures.value) in
    record { known = c.requires.known; named = refl; standing = stand.0 }

pub inverse_of-requires-clause-within : goal.inverse_of-requires-clause-within
inverse_of-requires-clause-within c = λ i d below.
    let k = c.args.known.now in
    let order = c.as_slice-order.result.now in
    let names = c.args.sections.now.sensitivities.items in
    let numbers = c.args.orders.now.sensitivities.items in
    let at : slice_get numbers i ≡ Some (get_or order i d) = ap (λ l. slice_get l i) (sym c.as_slice-order.ensures.value) ∙ is_there order i d below in
    let low =
    number_within k (items_in c.args.instances.now) (names_of c.args.sections.now) kinds.Sensitivity names c.in_ok-standing.standing.items (numbered c) refl c.requires.apart keywords.SensitivityOrder numbers c.requires.orders.of_sensitivities i (get_or order i d) at in
    let len = ap length c.as_slice-names.ensures.value in
    omega (arith, low, len)

pub inverse_of-requires-clause-once : goal.inverse_of-requires-clause-once
inverse_of-requires-clause-once c =
    subst AreOnce (sym c.as_slice-order.ensures.value)
    (are_once c.args.known.now (items_in c.args.instances.now) (names_of c.args.sections.now) kinds.Sensitivity c.args.sections.now.sensitivities.items c.in_ok-standing.standing.items (numbered c) refl c.requires.apart keywords.SensitivityOrder
    c.args.orders.now.sensitivities.items c.requires.orders.of_sensitivities)

pub inverse_of-requires-clause-few : goal.inverse_of-requires-clause-few
inverse_of-requires-clause-few c =
    let few =
    are_few c.args.known.now (items_in c.args.instances.now) (names_of c.args.sections.now) kinds.Sensitivity c.args.sections.now.sensitivities.items c.in_ok-standing.standing.items (numbered c) refl c.requires.apart keywords.SensitivityOrder
    c.args.orders.now.sensitivities.items c.requires.orders.of_sensitivities in
    let most = c.requires.orders.few_sensitivities in
    let len = ap length c.as_slice-order.ensures.value in
    omega (arith, few, most, len)

pub permit_all-requires-clause-count : goal.permit_all-requires-clause-count
permit_all-requires-clause-count c =
    let held = (c.requires.held c.requires.orders).1 in
    let count = held.count in
    let len = c.requires.orders.of_categories.len in
    let same = ap length c.as_slice-categories.ensures.value in
    omega (arith, count, len, same)

pub permit_all-requires-clause-few : goal.permit_all-requires-clause-few
permit_all-requires-clause-few c = (c.requires.held c.requires.orders).1.few

pub returns : goal.returns
returns c = λ o v held.
    let k = c.args.known.now in
    let i = c.args.instances.now in
    let xs = items_in i in
    let sections = names_of c.args.sections.now in
    let names = c.args.sections.now.sensitivities.items in
    let numbers = c.args.orders.now.sensitivities.items in
    let policy = c.in-Ok.ensures sections (space_of kinds.Sensitivity) (record { known = c.requires.known; is_space = sensitivities_space; named = sym c.as_slice-names.ensures.value }) in
    let stand = c.in_ok-standing.ensures k xs sections kinds.Sensitivity c.requires.known refl (subst (AreMembers k xs sections (space_of kinds.Sensitivity)) (sym c.held.ensures) policy.0) (ap length c.as_slice-names.ensures.value) in
    let are : AreNumbered k xs sections kinds.Sensitivity names c.in_ok-standing.standing.items = record { known = c.requires.known; named = refl; standing = stand.0 } in
    let inverse : AreInverse numbers c.in_ok-places.places.items = subst (λ (l : List ℕ). AreInverse l c.in_ok-places.places.items) c.as_slice-order.ensures.value c.in_ok-places.ensures.inverse in
    let row = o.of_categories.row in
    let old = c.in_ok-sets.sets.items in
    let new = c.permit_all.new.sets.items in
    let count : length c.as_slice-categories.result.now ≡ length row = ap length c.as_slice-categories.ensures.value ∙ o.of_categories.len in
    let more : HaveMore old new (PermitsAmong k c.in_ok-standing.standing.items c.in_ok-places.places.items c.args.helds.now (length row) xs) =
    subst (λ (n : ℕ). HaveMore old new (PermitsAmong k c.in_ok-standing.standing.items c.in_ok-places.places.items c.args.helds.now n xs)) count
    (subst (λ (l : List ℕ). HaveMore old new (PermitsAmong k c.in_ok-standing.standing.items l c.args.helds.now (length c.as_slice-categories.result.now) xs)) c.as_slice-2.ensures.value
    (subst (λ (l : List (List ℕ)). HaveMore old new (PermitsAmong k l c.as_slice-2.result.now c.args.helds.now (length c.as_slice-categories.result.now) xs)) c.as_slice.ensures.value c.in_ok-permit_all.ensures)) in
    are_permitted k xs sections names c.in_ok-standing.standing.items are c.requires.apart numbers o.of_sensitivities c.in_ok-places.places.items inverse row c.args.helds.now v held old new
    (c.in_ok-sets.ensures.len ∙ ap length c.as_slice-order.ensures.value) (λ n b l. c.in_ok-sets.ensures.none n b) more
