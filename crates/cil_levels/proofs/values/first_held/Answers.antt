use Rattle.std.proofs.Common.{List, ℕ, ap, arith, get_or, length, refl, subst, sym}
use Rattle.cil_base.specs.Places.{is_there}
use Rattle.cil_syntax.specs.declared.kind.Keyword.TheVariants as keywords
use Rattle.cil_syntax.specs.declared.kind.Kind.TheVariants as kinds
use Rattle.cil_macros.specs.Items.{items_in}
use Rattle.cil_names.specs.declared.entry.Entry.{Entry}
use Rattle.cil_known.specs.Members.{space_of}
use Rattle.cil_known.specs.Numbers.{names_of}
use Rattle.cil_mls.specs.attrs.Members.{AreMembers}
use Rattle.cil_mls.specs.Ordering.{AreNumbered}
use Rattle.cil_mls.proofs.OrderSpaces.{categories_space}
use Rattle.cil_levels.specs.Begun.{AreBegun}
use Rattle.cil_levels.proofs.PlaceLemmas.{are_few, are_once, number_within}
use Rattle.cil_levels.proofs.values.first_held.Goals as goal

pub members-requires-clause-known : goal.members-requires-clause-known
members-requires-clause-known c = (names_of c.args.sections.now, space_of kinds.Category, record { known = c.requires.known; is_space = categories_space; named = sym c.as_slice-names.ensures.value })

numbered : (c : goal.In_ok-standing) → AreNumbered c.args.known.now (items_in c.args.instances.now) (names_of c.args.sections.now) kinds.Category c.args.sections.now.categories.items c.in_ok-standing.standing.items
numbered c =
    let k = c.args.known.now in
    let xs = items_in c.args.instances.now in
    let sections = names_of c.args.sections.now in
    let policy = c.in-Ok.ensures sections (space_of kinds.Category) (record { known = c.requires.known; is_space = categories_space; named = sym c.as_slice-names.ensures.value }) in
    let stand = c.in_ok-standing.ensures k xs sections kinds.Category c.requires.known refl (subst (AreMembers k xs sections (space_of kinds.Category)) (sym c.held.ensures) policy.0) (ap length c.as_slice-names.ensures.value) in
    record { known = c.requires.known; named = refl; standing = stand.0 }

pub inverse_of-requires-clause-within : goal.inverse_of-requires-clause-within
inverse_of-requires-clause-within c = λ i d below.
    let k = c.args.known.now in
    let order = c.args.order.now in
    let names = c.args.sections.now.categories.items in
    let low =
    number_within k (items_in c.args.instances.now) (names_of c.args.sections.now) kinds.Category names c.in_ok-standing.standing.items (numbered c) refl c.requires.apart keywords.CategoryOrder order c.requires.order i (get_or order i d) (is_there order i d below) in
    let len = ap length c.as_slice-names.ensures.value in
    omega (arith, low, len)

pub inverse_of-requires-clause-once : goal.inverse_of-requires-clause-once
inverse_of-requires-clause-once c =
    are_once c.args.known.now (items_in c.args.instances.now) (names_of c.args.sections.now) kinds.Category c.args.sections.now.categories.items c.in_ok-standing.standing.items (numbered c) refl c.requires.apart keywords.CategoryOrder c.args.order.now
    c.requires.order

pub inverse_of-requires-clause-few : goal.inverse_of-requires-clause-few
inverse_of-requires-clause-few c =
    let few =
    are_few c.args.known.now (items_in c.args.instances.now) (names_of c.args.sections.now) kinds.Category c.args.sections.now.categories.items c.in_ok-standing.standing.items (numbered c) refl c.requires.apart keywords.CategoryOrder c.args.order.now
    c.requires.order in
    let most = c.requires.few in
    omega (arith, few, most)

pub returns : goal.returns
returns c =
    let k = c.args.known.now in
    let xs = items_in c.args.instances.now in
    let sections = names_of c.args.sections.now in
    let names = c.args.sections.now.categories.items in
    let policy = c.in-Ok.ensures sections (space_of kinds.Category) (record { known = c.requires.known; is_space = categories_space; named = sym c.as_slice-names.ensures.value }) in
    let stand = c.in_ok-standing.ensures k xs sections kinds.Category c.requires.known refl (subst (AreMembers k xs sections (space_of kinds.Category)) (sym c.held.ensures) policy.0) (ap length c.as_slice-names.ensures.value) in
    let are : AreNumbered k xs sections kinds.Category names c.in_ok-standing.standing.items = record { known = c.requires.known; named = refl; standing = stand.0 } in
    let few = are_few k xs sections kinds.Category names c.in_ok-standing.standing.items are refl c.requires.apart keywords.CategoryOrder c.args.order.now c.requires.order in
    let most = c.requires.few in
    record {
      first = record {
        standing = c.in_ok-standing.standing.items;
        places = c.in_ok-places.places.items;
        numbered = are;
        inverse = c.in_ok-places.ensures.inverse;
        begun =
            subst (λ (es : List Entry). AreBegun es c.in_ok-standing.standing.items c.in_ok-places.places.items c.in_ok-helds.helds.items) c.entries.ensures.value
            (subst (λ (l : List (List ℕ)). AreBegun c.entries.result.now l c.in_ok-places.places.items c.in_ok-helds.helds.items) c.as_slice.ensures.value
            (subst (λ (l : List ℕ). AreBegun c.entries.result.now c.as_slice.result.now l c.in_ok-helds.helds.items) c.as_slice-2.ensures.value c.in_ok-helds.ensures.begun));
      };
      few = c.in_ok-helds.ensures.few;
      count = omega (arith, few, most);
    }
