-- Where no macro stands, nothing is placed but what stands: nothing is in a body.
use Rattle.std.proofs.Common.{◌≡◌, true, false, List, [], ◌∷◌, ◌++◌, length, refl, sym, ◌∙◌, ap, subst, inl, inr, arith}
use Rattle.std.specs.Prelude.{Contains, Option, Some, None}
use Rattle.std.specs.List.Sorted.{IsStrictlySortedBy}
use Rattle.std.proofs.lemmas.Bool.{and_parts, cases_lt}
use Rattle.std.proofs.lemmas.List.{length-map}
use Rattle.cil_base.specs.Lists.{Lists, contains_cases, contains_here, contains_none}
use Rattle.cil_base.specs.MadeLists.{contains_map, from_map}
use Rattle.cil_base.specs.Places.{none_some}
use Rattle.cil_base.specs.Rising.{IsOver, tied_same}
use Rattle.cil_faults.specs.declared.fault.Fault.{Fault}
use Rattle.cil_faults.specs.Fails.{AreFaults}
use Rattle.cil_faults.specs.Laws.{Outcome, succeeds, fails}
use Rattle.cil_syntax.specs.Written.{Written, is_macro, written_cmp, written_total}
use Rattle.cil_blocks.specs.Contents.{Standing, Stands, standing_cmp}
use Rattle.cil_blocks.specs.InheritFaults.{limit_fault, most_instances}
use Rattle.cil_blocks.proofs.ProgramLemmas.{tied}
use Rattle.cil_macros.specs.CallPlaces.{is_in_branch}
use Rattle.cil_macros.specs.Calls.{IsPlaced, Unfolded, called, called_macro, in_branch, in_optional, is_call, placed_cmp, stands, unfolded}
use Rattle.cil_macros.specs.ExpandFaults.{ExpandFault, ExpandStep, call_arguments, call_cycle, call_place, call_misplaced, too_many}
use Rattle.cil_macros.specs.Laws.{HaveFlatInstances}
use Rattle.cil_macros.specs.Opens.{starts}
use Rattle.cil_macros.specs.Placed.{Placed, placed_standing}
use Rattle.cil_macros.proofs.CallLemmas.{uncalled}
use Rattle.cil_macros.proofs.CalledMacros.{names_macro}
use Rattle.cil_macros.proofs.ExpandLemmas.{limit_alone, no_step}
use Rattle.cil_macros.proofs.PlacedWalk.{queue_order}
use Rattle.cil_macros.proofs.ThroughLemmas.{came_through_none, stands_ended}
use Rattle.cil_macros.proofs.WrittenLemmas.{stands_written}

never : true ≡ false → ⊥
never e = cc

module _ (ws : List Written) (ss : List Standing) (rising : IsStrictlySortedBy written_cmp ws) (are : Lists standing_cmp (Stands ws) ss)
    (flat : (w : Written) → Contains ws w → is_macro w.statement.keyword ≡ false) where
  no_macro : (p : Placed) (m : Standing) → called_macro ss p ≡ Some m → ⊥
  no_macro p m e =
      let n = names_macro ws ss p m e in
      never (sym n.2 ∙ flat m.statement (stands_written ws m ((are.members m).0 n.1)))

  none_called : (p : Placed) (o : Option Standing) → called_macro ss p ≡ o → called_macro ss p ≡ None
  none_called p None e = e
  none_called p (Some m) e = absurd (no_macro p m e)

  not_unfolded : (p : Placed) (u : Unfolded) → unfolded ws ss p ≡ Some u → ⊥
  not_unfolded p u e = none_some u (sym (uncalled ws ss p (none_called p (called_macro ss p) refl)) ∙ e)

  placed_stands : (p : Placed) → IsPlaced ws ss p → Contains (starts ss) p
  placed_stands p (stands s c) = contains_map placed_standing ss s c
  placed_stands p (called q u w iq e c i) = absurd (not_unfolded q u e)
  placed_stands p (in_optional q b w iq e o c i) =
      let m = from_map placed_standing ss q (placed_stands q iq) in
      absurd (none_some b (ap (λ (r : Placed). r.body) m.2 ∙ e))
  placed_stands p (in_branch q b w iq e o c i) =
      let m = from_map placed_standing ss q (placed_stands q iq) in
      absurd (none_some b (ap (λ (r : Placed). r.body) m.2 ∙ e))

  unfolds_calls : (p : Placed) (u : Unfolded) → unfolded ws ss p ≡ Some u → is_call p.standing.statement.statement.keyword ≡ true
  unfolds_calls p u e = absurd (not_unfolded p u e)

  placed : Lists placed_cmp (IsPlaced ws ss) (starts ss)
  placed = record {
    rising = (queue_order ws ss unfolds_calls rising are.rising).start_rises;
    members = λ p. (
      (λ c. let m = from_map placed_standing ss p c in subst (IsPlaced ws ss) m.2 (stands m.0 m.1)),
      placed_stands p,
    );
  }

  one_at : (v w : Written) → Contains ws v → Contains ws w → v.statement.at ≡ w.statement.at → v ≡ w
  one_at v w c d e = tied_same written_cmp written_total ws v w rising c d (tied v w e)

  no_fault : (f : Fault) → ExpandFault ws ss f → ⊥
  no_fault f (call_cycle p m w ip e g again) = no_macro p m e
  no_fault f (call_arguments p m w ip e g none) = no_macro p m e
  no_fault f (call_misplaced p u w ip e g has) = not_unfolded p u e
  no_fault f (call_place p q w ip b iq x misplaced g) =
      let s = from_map placed_standing ss p (placed_stands p ip) in
      let t = from_map placed_standing ss q (placed_stands q iq) in
      let st = (are.members s.0).0 s.1 in
      came_through_none ws one_at s.0 (stands_written ws s.0 st) (stands_ended ws s.0 st)
      (ap (λ (r : Placed). is_call r.standing.statement.statement.keyword) s.2
      ∙ (and_parts (is_call p.standing.statement.statement.keyword) (is_in_branch p.standing.statement) b).0) t.0 x.at x.more ((are.members t.0).0 t.1)
      (ap (λ (r : Placed). r.standing.trail) t.2 ∙ x.so ∙ ap (λ (r : Placed). r.standing.trail ++ x.at ∷ x.more) (sym s.2))

  limit_listed : IsOver placed_cmp (IsPlaced ws ss) most_instances → AreFaults (ExpandStep ws ss) (limit_fault ∷ [])
  unfolding IsStrictlySortedBy
  limit_listed over = record {
    listed = record {
      rising = (tt, tt);
      members = λ f. (
        (λ c. elim (contains_cases f limit_fault [] c) [ inl e ↦ subst (ExpandStep ws ss) e (too_many over) | inr d ↦ absurd (contains_none f d) ]),
        (λ s. subst (Contains (limit_fault ∷ [])) (sym (limit_alone ws ss over f s)) (contains_here limit_fault [])),
      );
    };
    some = omega arith;
  }

  counted : length (starts ss) ≡ length ss
  counted = length-map ss placed_standing

  outcome : Outcome (Lists placed_cmp (IsPlaced ws ss)) (ExpandStep ws ss)
  outcome = elim (cases_lt most_instances (length ss)) [
    | inl many ↦ fails (limit_fault ∷ [])
        (limit_listed (record {
          some = starts ss;
          rising = placed.rising;
          each = λ p c. (placed.members p).0 c;
          many = let l = counted in omega (arith, l, many);
        }))
    | inr few ↦ succeeds (starts ss) placed (no_step ws ss (starts ss) placed (let l = counted in omega (arith, l, few)) no_fault)
  ]

pub have_flat_instances : HaveFlatInstances
have_flat_instances ws ss rising are flat = outcome ws ss rising are flat
