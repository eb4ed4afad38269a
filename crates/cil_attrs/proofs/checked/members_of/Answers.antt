use Rattle.std.specs.Prelude.{◌↔◌, ℕ, get_or, false, true}
use Rattle.std.proofs.Common.{◌≡◌, sym, subst}
use Rattle.cil_known.specs.macros.Items.{items_in}
use Rattle.cil_attrs.specs.Made.{AreSetsAt}
use Rattle.cil_attrs.specs.Members.{AreMembers}
use Rattle.cil_attrs.specs.Order.{Depends, FallFor, IsAcyclic}
use Rattle.cil_attrs.proofs.MembersLemmas.{gifts_mean, gifts_sets}
use Rattle.cil_attrs.proofs.SpaceLemmas.{items_apart}
use Rattle.cil_attrs.proofs.WholeLemmas.{are_acyclic, are_circular, members_are, said_otherwise}
use Rattle.cil_attrs.proofs.checked.members_of.Goals as goal

pub plain_givens-requires-clause-written : goal.plain_givens-requires-clause-written
plain_givens-requires-clause-written c = c.requires.space.written

pub cycles_of_sets-requires : goal.cycles_of_sets-requires
cycles_of_sets-requires c =
    let k = c.args.known.now in
    let i = c.args.instances.now in
    let (sections, which, policy) = c.requires.known in
    let are = c.in_ok-first.ensures.each in
    let gifts = c.in_ok-givens.ensures.gifts sections which policy.known policy.is_space in
    let sets = gifts_sets k i c.args.space.now which policy.is_space (items_apart c.args.space.now c.args.sign c.requires.space) c.in_ok-first.first.items are c.in_ok-givens.givens.items gifts in
    subst (λ held. AreSetsAt held c.as_slice-2.result.now) (sym c.as_slice.ensures.value) (subst (AreSetsAt c.in_ok-first.first.items) (sym c.as_slice-2.ensures.value) sets)

pub check_sets-requires-clause-circular : goal.check_sets-requires-clause-circular
check_sets-requires-clause-circular c = λ other is.
    let k = c.args.known.now in
    let i = c.args.instances.now in
    let r = c.args.space.now in
    let first = c.in_ok-first.first.items in
    let givens = c.in_ok-givens.givens.items in
    let (sections, which, told) = c.requires.known in
    let policy = said_otherwise k i r c.args.names.now sections which other told is in
    let are = c.in_ok-first.ensures.each in
    let gifts = c.in_ok-givens.ensures.gifts sections other policy.known policy.is_space in
    let flags = subst (λ held. (d : ℕ) → (get_or c.in_ok-cycles.cycles.on.items d false ≡ true) ↔ Depends held givens d d) c.as_slice.ensures.value
    (subst (λ gs. (d : ℕ) → (get_or c.in_ok-cycles.cycles.on.items d false ≡ true) ↔ Depends c.as_slice.result.now gs d d) c.as_slice-2.ensures.value c.in_ok-cycles.ensures.on) in
    are_circular k i r c.args.sign c.requires.space c.args.names.now sections other policy c.means_what_it_names.ensures first are givens gifts c.in_ok-givens.ensures.plain c.as_slice-3.result.now
    (subst (λ on. (d : ℕ) → (get_or on d false ≡ true) ↔ Depends first givens d d) (sym c.as_slice-3.ensures.value) flags)

pub made_by_ranks-requires-clause-sets : goal.made_by_ranks-requires-clause-sets
made_by_ranks-requires-clause-sets c =
    let k = c.args.known.now in
    let i = c.args.instances.now in
    let (sections, which, policy) = c.requires.known in
    let are = c.in_ok-first.ensures.each in
    let gifts = c.in_ok-givens.ensures.gifts sections which policy.known policy.is_space in
    gifts_sets k i c.args.space.now which policy.is_space (items_apart c.args.space.now c.args.sign c.requires.space) c.in_ok-first.first.items are c.in_ok-givens.givens.items gifts

pub made_by_ranks-requires-clause-fall : goal.made_by_ranks-requires-clause-fall
made_by_ranks-requires-clause-fall c =
    let k = c.args.known.now in
    let i = c.args.instances.now in
    let r = c.args.space.now in
    let first = c.in_ok-first.first.items in
    let givens = c.in_ok-givens.givens.items in
    let (sections, which, policy) = c.requires.known in
    let are = c.in_ok-first.ensures.each in
    let gifts = c.in_ok-givens.ensures.gifts sections which policy.known policy.is_space in
    let acyclic = are_acyclic k i r c.args.sign c.requires.space c.args.names.now sections which policy c.means_what_it_names.ensures first are givens gifts c.in_ok-givens.ensures.plain (c.in_ok-check_sets.ensures sections which policy).1 in
    let ranks = c.in_ok-cycles.cycles.ranks.items in
    let fall = subst (λ held. IsAcyclic held givens → FallFor held givens ranks) c.as_slice.ensures.value
    (subst (λ gs. IsAcyclic c.as_slice.result.now gs → FallFor c.as_slice.result.now gs ranks) c.as_slice-2.ensures.value c.in_ok-cycles.ensures.ranks) in
    subst (FallFor first givens) (sym c.as_slice-4.ensures.value) (fall acyclic)

pub returns : goal.returns
returns c = λ sections which policy.
    let k = c.args.known.now in
    let i = c.args.instances.now in
    let r = c.args.space.now in
    let first = c.in_ok-first.first.items in
    let givens = c.in_ok-givens.givens.items in
    let are = c.in_ok-first.ensures.each in
    let gifts = c.in_ok-givens.ensures.gifts sections which policy.known policy.is_space in
    let plain = c.in_ok-givens.ensures.plain in
    let law = c.means_what_it_names.ensures in
    let none = (c.in_ok-check_sets.ensures sections which policy).1 in
    let acyclic = are_acyclic k i r c.args.sign c.requires.space c.args.names.now sections which policy law first are givens gifts plain none in
    let ranks = c.in_ok-cycles.cycles.ranks.items in
    let fall = subst (λ held. IsAcyclic held givens → FallFor held givens ranks) c.as_slice.ensures.value
    (subst (λ gs. IsAcyclic c.as_slice.result.now gs → FallFor c.as_slice.result.now gs ranks) c.as_slice-2.ensures.value c.in_ok-cycles.ensures.ranks) in
    let made = c.in_ok-held.ensures k i (gifts_mean k i r which policy.is_space (items_apart r c.args.sign c.requires.space) first are givens gifts plain) in (
      subst (AreMembers k (items_in i) sections which) (sym c.of.ensures)
          (members_are k i r c.args.sign c.requires.space c.args.names.now sections which policy law first are givens gifts plain c.requires.apart c.in_ok-held.held.items made ranks (fall acyclic) c.in_ok-first.ensures.len),
      none,
    )
