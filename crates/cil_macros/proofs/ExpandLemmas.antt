-- The step of macros: its faults are those that are told, or that of the limit.
use Rattle.std.proofs.Common.{◌≡◌, ◌⊎◌, ℕ, zero, suc, ◌+◌, ◌≤◌, Bool, true, false, List, [], ◌∷◌, ◌++◌, length, refl, sym, ◌∙◌, ap, subst, inl, inr, arith}
use Rattle.std.specs.Prelude.{◌||◌, Contains, Option, Some, None, is_some, not, slice_get}
use Rattle.std.proofs.lemmas.Bool.{and_from, and_parts}
use Rattle.std.specs.Cmp.{IsTotalOrder}
use Rattle.std.proofs.lemmas.Cmp.{lists_total, nat_cmp_total, on_total, then_total}
use Rattle.std.proofs.lemmas.List.Elements.{Contains-append_cases, Contains-append_left, Contains-append_right}
use Rattle.cil_base.specs.Lists.{Lists, contains_cases, contains_here, contains_none}
use Rattle.cil_base.specs.Places.{get_at, get_contains, none_some, some_same}
use Rattle.cil_base.specs.Rising.{IsOver, not_over}
use Rattle.cil_faults.specs.declared.code.FaultCode.{FaultCode}
use Rattle.cil_faults.specs.declared.code.FaultCode.TheVariants as causes
use Rattle.cil_faults.specs.declared.fault.Fault.{Fault}
use Rattle.cil_syntax.specs.declared.term.Word.{Word}
use Rattle.cil_faults.specs.Fails.{AreFaults}
use Rattle.cil_faults.specs.Reported.{fault_at}
use Rattle.cil_faults.specs.Namespaces.{Namespace}
use Rattle.cil_syntax.specs.Written.{Written}
use Rattle.cil_blocks.specs.Contents.{Standing, first_word, spot_total}
use Rattle.cil_blocks.specs.InheritFaults.{limit_fault, most_instances}
use Rattle.cil_blocks.specs.Places.{Standings, entries_in}
use Rattle.cil_blocks.proofs.EntryLemmas.{standings_length}
use Rattle.cil_macros.specs.declared.entry.Called.{Called}
use Rattle.cil_macros.specs.declared.faults.Wrong.{Wrong}
use Rattle.cil_macros.specs.Brings.{AreCallMarks, BringsOther, is_marked}
use Rattle.cil_macros.specs.CallFaults.{faults_from, faults_of, is_again, is_unfit, told, told_if, wrong_of}
use Rattle.cil_macros.specs.CallPlaces.{is_call_in_branch, is_in_branch}
use Rattle.cil_macros.specs.Calls.{IsPlaced, bounds_of_call, called_macro, is_call, is_repeated, placed_cmp}
use Rattle.cil_macros.specs.ExpandFaults.{ExpandFault, ExpandStep, call_arguments, call_cycle, call_place, call_misplaced, of_calls, too_many}
use Rattle.cil_macros.specs.ListPlaces.{AreListMarks, FillsWrongly}
use Rattle.cil_macros.specs.Macros.{all_standing}
use Rattle.cil_macros.specs.Placed.{Placed}
use Rattle.cil_macros.specs.Walks.{placed_in, written_in}
use Rattle.cil_macros.proofs.EntryLemmas.{placed_length}
use Rattle.cil_faults.proofs.RefusalLemmas.{faults_alike}

pub placed_total : IsTotalOrder placed_cmp
placed_total = then_total (on_total (λ p. p.steps) nat_cmp_total) (on_total (λ p. p.standing.trail) (then_total (on_total length nat_cmp_total) (lists_total spot_total)))

-- ---- what is told of one call

if_told : (wrong : Bool) (code : FaultCode) (space : Namespace) (w : Word) (f : Fault) → Contains (told_if wrong code space w) f → (wrong ≡ true) × (fault_at code w.at space w.bytes ≡ f)
if_told true code space w f c = elim (contains_cases f (fault_at code w.at space w.bytes) [] c) [ inl e ↦ (refl, e) | inr d ↦ absurd (contains_none f d) ]
if_told false code space w f c = absurd (contains_none f c)

is_told : (wrong : Bool) (code : FaultCode) (space : Namespace) (w : Word) → wrong ≡ true → Contains (told_if wrong code space w) (fault_at code w.at space w.bytes)
is_told true code space w e = contains_here (fault_at code w.at space w.bytes) []
is_told false code space w e = cc

unfit_none : {X : Type 0} (o : Option X) → not (is_some o) ≡ true → o ≡ None
unfit_none None e = refl
unfit_none (Some x) e = cc

one_or_other : (a b : Bool) → (a || b) ≡ true → (a ≡ true) ⊎ (b ≡ true)
one_or_other true b e = inl refl
one_or_other false b e = inr e

other_true : (a b : Bool) → b ≡ true → (a || b) ≡ true
other_true true b e = refl
other_true false b e = e

module _ (ws : List Written) (ss : List Standing) where
  -- what is told of a word is one of the three
  module _ (space : Namespace) (x : Wrong) (w : Word) where
    told_cases : (f : Fault) → Contains (told space x (Some w)) f
        → ((x.again ≡ true) × (fault_at causes.CallCycle w.at space w.bytes ≡ f))
        ⊎ (((x.unfit ≡ true) × (fault_at causes.CallArguments w.at space w.bytes ≡ f)) ⊎ ((x.misplaced ≡ true) × (fault_at causes.CallPlace w.at space w.bytes ≡ f)))
    told_cases f c =
        elim (Contains-append_cases (told_if x.again causes.CallCycle space w) (told_if x.unfit causes.CallArguments space w ++ told_if x.misplaced causes.CallPlace space w) f c) [
          | inl d ↦ inl (if_told x.again causes.CallCycle space w f d)
          | inr d ↦ inr (elim (Contains-append_cases (told_if x.unfit causes.CallArguments space w) (told_if x.misplaced causes.CallPlace space w) f d) [
            | inl e ↦ inl (if_told x.unfit causes.CallArguments space w f e)
            | inr e ↦ inr (if_told x.misplaced causes.CallPlace space w f e)
          ])
        ]

    told_again : x.again ≡ true → Contains (told space x (Some w)) (fault_at causes.CallCycle w.at space w.bytes)
    told_again e =
        Contains-append_left (told_if x.again causes.CallCycle space w) (told_if x.unfit causes.CallArguments space w ++ told_if x.misplaced causes.CallPlace space w)
        (fault_at causes.CallCycle w.at space w.bytes) (is_told x.again causes.CallCycle space w e)

    told_unfit : x.unfit ≡ true → Contains (told space x (Some w)) (fault_at causes.CallArguments w.at space w.bytes)
    told_unfit e =
        Contains-append_right (told_if x.again causes.CallCycle space w) (told_if x.unfit causes.CallArguments space w ++ told_if x.misplaced causes.CallPlace space w)
        (fault_at causes.CallArguments w.at space w.bytes)
        (Contains-append_left (told_if x.unfit causes.CallArguments space w) (told_if x.misplaced causes.CallPlace space w) (fault_at causes.CallArguments w.at space w.bytes)
        (is_told x.unfit causes.CallArguments space w e))

    told_misplaced : x.misplaced ≡ true → Contains (told space x (Some w)) (fault_at causes.CallPlace w.at space w.bytes)
    told_misplaced e =
        Contains-append_right (told_if x.again causes.CallCycle space w) (told_if x.unfit causes.CallArguments space w ++ told_if x.misplaced causes.CallPlace space w)
        (fault_at causes.CallPlace w.at space w.bytes)
        (Contains-append_right (told_if x.unfit causes.CallArguments space w) (told_if x.misplaced causes.CallPlace space w) (fault_at causes.CallPlace w.at space w.bytes)
        (is_told x.misplaced causes.CallPlace space w e))

  again_some : (p : Placed) (o : Option Standing) → is_again p o ≡ true → (m : Standing) × (o ≡ Some m) × (is_repeated p m ≡ true)
  again_some p None e = absurd (let f : false ≡ true = e in cc)
  again_some p (Some m) e = (m, refl, e)

  unfit_some : (p : Placed) (o : Option Standing) → is_unfit ws p o ≡ true → (m : Standing) × (o ≡ Some m) × (bounds_of_call ws p m ≡ None)
  unfit_some p None e = absurd (let f : false ≡ true = e in cc)
  unfit_some p (Some m) e = (m, refl, unfit_none (bounds_of_call ws p m) e)

  -- what was told is wrong
  told_is : (p : Placed) (mark list : Bool) (q : Option Word) (f : Fault) → IsPlaced ws ss p → (mark ≡ true → is_call_in_branch p.standing.statement ≡ true → BringsOther ws ss p)
      → (list ≡ true → FillsWrongly ws ss p) → first_word p.standing.statement.statement.args ≡ q → Contains (told p.standing.space (wrong_of ws ss mark list p) q) f → ExpandFault ws ss f
  told_is p mark list None f ip brings fills g c = absurd (contains_none f c)
  told_is p mark list (Some w) f ip brings fills g c =
      elim (told_cases p.standing.space (wrong_of ws ss mark list p) w f c) [
        | inl t ↦ let m = again_some p (called_macro ss p) t.0 in subst (ExpandFault ws ss) t.1 (call_cycle p m.0 w ip m.1 g m.2)
        | inr d ↦ elim d [
          | inl t ↦ elim (one_or_other (is_unfit ws p (called_macro ss p)) list t.0) [
            | inl e ↦ let m = unfit_some p (called_macro ss p) e in subst (ExpandFault ws ss) t.1 (call_arguments p m.0 w ip m.1 g m.2)
            | inr e ↦ let x = fills e in subst (ExpandFault ws ss) t.1 (call_misplaced p x.opened w ip x.is g x.has)
          ]
          | inr t ↦ let b = and_parts mark (is_call_in_branch p.standing.statement) t.0 in
              let x = brings b.0 b.1 in
              subst (ExpandFault ws ss) t.1 (call_place p x.other w ip b.1 x.placed x.through x.misplaced g)
        ]
      ]

  -- what is wrong is told
  here : (p : Placed) (mark list : Bool) (w : Word) (f : Fault) → first_word p.standing.statement.statement.args ≡ Some w
      → Contains (told p.standing.space (wrong_of ws ss mark list p) (Some w)) f → Contains (faults_of ws ss mark list p) f
  here p mark list w f g c = subst (λ q. Contains (told p.standing.space (wrong_of ws ss mark list p) q) f) (sym g) c

  -- ---- what is told of all

  module _ (marks lists : List Bool) where
    from_some : (k : ℕ) (xs : List Placed) (f : Fault) → Contains (faults_from ws ss marks lists k xs) f
        → (i : ℕ) × (p : Placed) × (slice_get xs i ≡ Some p) × Contains (faults_of ws ss (is_marked marks (k + i)) (is_marked lists (k + i)) p) f
    unfolding faults_from
    from_some k [] f c = absurd (contains_none f c)
    from_some k (p ∷ xs) f c =
        elim (Contains-append_cases (faults_of ws ss (is_marked marks k) (is_marked lists k) p) (faults_from ws ss marks lists (suc k) xs) f c) [
          | inl d ↦ (0, p, refl, subst (λ n. Contains (faults_of ws ss (is_marked marks n) (is_marked lists n) p) f) (let e : k ≡ k + 0 = omega arith in e) d)
          | inr d ↦ let r = from_some (suc k) xs f d in
              (suc r.0, r.1, r.2, subst (λ n. Contains (faults_of ws ss (is_marked marks n) (is_marked lists n) r.1) f) (let e : suc k + r.0 ≡ k + suc r.0 = omega arith in e) r.3)
        ]

    some_from : (k : ℕ) (xs : List Placed) (f : Fault) (i : ℕ) (p : Placed) → slice_get xs i ≡ Some p → Contains (faults_of ws ss (is_marked marks (k + i)) (is_marked lists (k + i)) p) f
        → Contains (faults_from ws ss marks lists k xs) f
    unfolding faults_from
    some_from k [] f i p e c = absurd (none_some p e)
    some_from k (x ∷ xs) f zero p e c =
        Contains-append_left (faults_of ws ss (is_marked marks k) (is_marked lists k) x) (faults_from ws ss marks lists (suc k) xs) f
        (subst (λ y. Contains (faults_of ws ss (is_marked marks k) (is_marked lists k) y) f) (sym (some_same x p e))
        (subst (λ n. Contains (faults_of ws ss (is_marked marks n) (is_marked lists n) p) f) (let g : k + 0 ≡ k = omega arith in g) c))
    some_from k (x ∷ xs) f (suc i) p e c =
        Contains-append_right (faults_of ws ss (is_marked marks k) (is_marked lists k) x) (faults_from ws ss marks lists (suc k) xs) f
        (some_from (suc k) xs f i p e (subst (λ n. Contains (faults_of ws ss (is_marked marks n) (is_marked lists n) p) f) (let g : k + suc i ≡ suc k + i = omega arith in g) c))

  module _ (xs : List Placed) (are : Lists placed_cmp (IsPlaced ws ss) xs) where
    pub not_too_many : length xs ≤ most_instances → IsOver placed_cmp (IsPlaced ws ss) most_instances → ⊥
    not_too_many h over = not_over placed_cmp placed_total (IsPlaced ws ss) xs most_instances are h over

    pub no_step : length xs ≤ most_instances → ((f : Fault) → ExpandFault ws ss f → ⊥) → (f : Fault) → ExpandStep ws ss f → ⊥
    no_step h none f (of_calls g few x) = none f x
    no_step h none f (too_many over) = not_too_many h over

  module _ (xs : List Placed) (are : Lists placed_cmp (IsPlaced ws ss) xs) (marks : List Bool) (marked : AreCallMarks ws ss xs marks) (lists : List Bool)
      (listed : AreListMarks ws ss xs lists) where
    pub told_fault : (f : Fault) → Contains (faults_from ws ss marks lists 0 xs) f → ExpandFault ws ss f
    told_fault f c =
        let r = from_some marks lists 0 xs f c in
        told_is r.1 (is_marked marks r.0) (is_marked lists r.0) (first_word r.1.standing.statement.statement.args) f ((are.members r.1).0 (get_contains xs r.0 r.1 r.2))
        (λ m b. (marked r.0 r.1 r.2 (and_parts (is_call r.1.standing.statement.statement.keyword) (is_in_branch r.1.standing.statement) b).0).0 m) (listed r.0 r.1 r.2).0 refl
        (subst (λ n. Contains (faults_of ws ss (is_marked marks n) (is_marked lists n) r.1) f) (let e : 0 + r.0 ≡ r.0 = omega arith in e) r.3)

    told_there : (p : Placed) (f : Fault) → IsPlaced ws ss p → ((k : ℕ) → slice_get xs k ≡ Some p → Contains (faults_of ws ss (is_marked marks k) (is_marked lists k) p) f)
        → Contains (faults_from ws ss marks lists 0 xs) f
    told_there p f ip c = let k = get_at xs p ((are.members p).1 ip) in
        some_from marks lists 0 xs f k.0 p k.2 (subst (λ n. Contains (faults_of ws ss (is_marked marks n) (is_marked lists n) p) f) (let e : k.0 ≡ 0 + k.0 = omega arith in e) (c k.0 k.2))

    pub fault_told : (f : Fault) → ExpandFault ws ss f → Contains (faults_from ws ss marks lists 0 xs) f
    fault_told f (call_cycle p m w ip e g again) =
        told_there p (fault_at causes.CallCycle w.at p.standing.space w.bytes) ip
        (λ k at. here p (is_marked marks k) (is_marked lists k) w (fault_at causes.CallCycle w.at p.standing.space w.bytes) g
        (told_again p.standing.space (wrong_of ws ss (is_marked marks k) (is_marked lists k) p) w (ap (is_again p) e ∙ again)))
    fault_told f (call_arguments p m w ip e g none) =
        told_there p (fault_at causes.CallArguments w.at p.standing.space w.bytes) ip
        (λ k at. here p (is_marked marks k) (is_marked lists k) w (fault_at causes.CallArguments w.at p.standing.space w.bytes) g
        (told_unfit p.standing.space (wrong_of ws ss (is_marked marks k) (is_marked lists k) p) w
        (ap (λ b. b || is_marked lists k) (ap (is_unfit ws p) e ∙ ap (λ o. not (is_some o)) none))))
    fault_told f (call_misplaced p u w ip e g has) =
        told_there p (fault_at causes.CallArguments w.at p.standing.space w.bytes) ip
        (λ k at. here p (is_marked marks k) (is_marked lists k) w (fault_at causes.CallArguments w.at p.standing.space w.bytes) g
        (told_unfit p.standing.space (wrong_of ws ss (is_marked marks k) (is_marked lists k) p) w
        (other_true (is_unfit ws p (called_macro ss p)) (is_marked lists k) ((listed k p at).1 (record { opened = u; is = e; has = has })))))
    fault_told f (call_place p q w ip b iq through misplaced g) =
        told_there p (fault_at causes.CallPlace w.at p.standing.space w.bytes) ip
        (λ k at. here p (is_marked marks k) (is_marked lists k) w (fault_at causes.CallPlace w.at p.standing.space w.bytes) g
        (told_misplaced p.standing.space (wrong_of ws ss (is_marked marks k) (is_marked lists k) p) w
        (and_from (is_marked marks k) (is_call_in_branch p.standing.statement)
        ((marked k p at (and_parts (is_call p.standing.statement.statement.keyword) (is_in_branch p.standing.statement) b).0).1
        (record { other = q; placed = iq; through = through; misplaced = misplaced })) b)))

    -- ---- the step

    pub refused_calls : length xs ≤ most_instances → (faults l : List Fault) → faults ≡ faults_from ws ss marks lists 0 xs → AreFaults (Contains faults) l → AreFaults (ExpandStep ws ss) l
    refused_calls h faults l e so =
        faults_alike (Contains faults) (ExpandStep ws ss) l (λ f c. of_calls f (not_too_many xs are h) (told_fault f (subst (λ fs. Contains fs f) e c))) back so
      where
        back : (f : Fault) → ExpandStep ws ss f → Contains faults f
        back f (of_calls g few x) = subst (λ fs. Contains fs f) (sym e) (fault_told f x)
        back f (too_many over) = absurd (not_too_many xs are h over)

    pub no_fault : (faults : List Fault) → faults ≡ faults_from ws ss marks lists 0 xs → faults ≡ [] → (f : Fault) → ExpandFault ws ss f → ⊥
    no_fault faults e none f x = contains_none f (subst (λ fs. Contains fs f) (sym e ∙ none) (fault_told f x))

  pub limit_alone : IsOver placed_cmp (IsPlaced ws ss) most_instances → (f : Fault) → ExpandStep ws ss f → f ≡ limit_fault
  limit_alone over f (of_calls g few x) = absurd (few over)
  limit_alone over f (too_many o) = refl

  pub over_so : (l : List Fault) → IsOver placed_cmp (IsPlaced ws ss) most_instances → AreFaults (λ f. f ≡ limit_fault) l → AreFaults (ExpandStep ws ss) l
  over_so l over h = faults_alike (λ f. f ≡ limit_fault) (ExpandStep ws ss) l (λ f e. subst (ExpandStep ws ss) (sym e) (too_many over)) (limit_alone over) h

pub placed_few : (s : Standings) (cs : List Called) → length (entries_in s) + length cs ≤ most_instances → length (placed_in s cs) ≤ most_instances
placed_few s cs h =
    let l = placed_length (written_in s) (all_standing s) cs in
    let m = standings_length (written_in s) (entries_in s) in
    omega (arith, h, l, m)
