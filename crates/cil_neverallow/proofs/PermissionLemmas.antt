-- Statements without a permission that is forbidden have no overlap with one that forbids.
use Rattle.std.specs.Prelude.{Contains, IsBitSet, IsFalse, bit_and, bit_or, map}
use Rattle.std.proofs.Common.{not, ◌≡◌, ◌⊎◌, ℕ, ◌+◌, ◌<◌, ◌≤◌, List, [], ◌∷◌, ◌++◌, length, take, get_or, sym, ◌∙◌, ap, subst, inl, inr, arith, refl}
use Rattle.std.proofs.Math.Dec.{eqb}
use Rattle.std.proofs.Math.ListN.{set}
use Rattle.std.proofs.lemmas.Bool.Decides.{eqb_tells}
use Rattle.std.proofs.lemmas.List.{get_or_default, get_or-set_other, get_or-set_same, length-set, take_all, take_more}
use Rattle.std.proofs.lemmas.List.Elements.{Contains-append_cases}
use Rattle.cil_base.specs.Lists.{contains_cases, contains_none}
use Rattle.cil_base.specs.MadeLists.{from_map}
use Rattle.cil_index.proofs.classes_lemmas.BitLemmas.{none_set, set_in_both, set_in_either}
use Rattle.cil_faults.specs.declared.fault.Fault.{Fault}
use Rattle.cil_macros.specs.Item.{Item}
use Rattle.cil_index.specs.rules.Kept.{rule_named}
use Rattle.cil_index.specs.rules.Rule.{Rule}
use Rattle.cil_index.specs.rules.NamedRule.{NamedRule}
use Rattle.cil_neverallow.specs.declared.overlap.Overlap.{Overlap}
use Rattle.cil_neverallow.specs.Overlaps.{IsOverlap}
use Rattle.cil_neverallow.specs.declared.forbidden.View.{View}
use Rattle.cil_neverallow.specs.Permissions.{AreApart, AreIn, AreJoined, IsApart}
use Rattle.cil_neverallow.specs.Stated.{Keeps, Stated}
use Rattle.cil_neverallow.specs.Violations.{IsViolation}

-- ---- the permissions of rules

order : (j at : ℕ) → (j < at) ⊎ ((j ≡ at) ⊎ (at < j))
order j at = grind arith

-- the permissions of a rule are added to those of its class
pub joined_there : (old : List ℕ) (r : NamedRule) (mask : ℕ) → r.class < length old → mask ≡ get_or old r.class mask → AreJoined old r (set old r.class (bit_or mask r.mask))
joined_there old r mask within is = record {
  same = length-set old r.class (bit_or mask r.mask);
  stays = λ c bit s. kept c bit s (order c r.class);
  added = λ bit w s. subst (λ m. IsBitSet m bit) (sym here) ((set_in_either mask r.mask bit).1 (inr s));
}
  where
    here : get_or (set old r.class (bit_or mask r.mask)) r.class 0 ≡ bit_or mask r.mask
    here = get_or-set_same old r.class (bit_or mask r.mask) 0 within

    was : mask ≡ get_or old r.class 0
    was = is ∙ get_or_default old r.class mask 0 within

    kept : (c bit : ℕ) → IsBitSet (get_or old c 0) bit → (c < r.class) ⊎ ((c ≡ r.class) ⊎ (r.class < c)) → IsBitSet (get_or (set old r.class (bit_or mask r.mask)) c 0) bit
    kept c bit s (inl less) = subst (λ m. IsBitSet m bit) (sym (get_or-set_other old r.class c (bit_or mask r.mask) 0 (λ e. omega (arith, e, less)))) s
    kept c bit s (inr (inr more)) = subst (λ m. IsBitSet m bit) (sym (get_or-set_other old r.class c (bit_or mask r.mask) 0 (λ e. omega (arith, e, more)))) s
    kept c bit s (inr (inl e)) = subst (λ k. IsBitSet (get_or (set old r.class (bit_or mask r.mask)) k 0) bit) (sym e)
        (subst (λ m. IsBitSet m bit) (sym here) ((set_in_either mask r.mask bit).1 (inl (subst (λ m. IsBitSet m bit) (sym was) (subst (λ k. IsBitSet (get_or old k 0) bit) e s)))))

-- those of a rule on no class are not
pub not_joined : (old : List ℕ) (r : NamedRule) → length old ≤ r.class → AreJoined old r old
not_joined old r past = record { same = refl; stays = λ c bit s. s; added = λ bit within s. absurd (omega (arith, past, within)) }

-- no rules have none
pub none_in : (masks : List ℕ) → AreIn [] masks
none_in masks r bit c within s = absurd (contains_none r c)

-- one rule more
pub in_more : (rules : List NamedRule) (i : ℕ) (r : NamedRule) (old new : List ℕ) → i < length rules → r ≡ get_or rules i r → AreIn (take i rules) old → AreJoined old r new → AreIn (take (i + 1) rules) new
in_more rules i r old new within is before step q bit c w s =
    elim (Contains-append_cases (take i rules) (r ∷ []) q (subst (λ l. Contains l q) (take_more rules i r within ∙ ap (λ (z : NamedRule). take i rules ++ z ∷ []) (sym is)) c)) [
      | inl d ↦ step.stays q.class bit (before q bit d (subst (λ n. q.class < n) step.same w) s)
      | inr d ↦ elim (contains_cases q r [] d) [
        | inl e ↦ subst (λ (z : NamedRule). IsBitSet (get_or new z.class 0) bit) e
            (step.added bit (subst (λ (z : NamedRule). z.class < length old) (sym e) (subst (λ n. q.class < n) step.same w)) (subst (λ (z : NamedRule). IsBitSet z.mask bit) (sym e) s))
        | inr m ↦ absurd (contains_none q m)
      ]
    ]

pub in_all : (rules : List NamedRule) (i : ℕ) (masks : List ℕ) → length rules ≤ i → AreIn (take i rules) masks → AreIn rules masks
in_all rules i masks over are = subst (λ l. AreIn l masks) (take_all i rules over) are

-- ---- rules without them

-- a rule that shares no permission with the mask of its class
pub apart_of : (masks : List ℕ) (r : NamedRule) (mask : ℕ) → r.class < length masks → mask ≡ get_or masks r.class 0 → bit_and mask r.mask ≡ 0 → IsApart masks r
apart_of masks r mask within is none = record {
  within = within;
  none = λ bit mine theirs. none_set bit (subst (λ m. IsBitSet m bit) none ((set_in_both mask r.mask bit).1 (subst (λ m. IsBitSet m bit) (sym is) theirs, mine)));
}

pub apart_by : (masks : List ℕ) (r : NamedRule) (mask : ℕ) → r.class < length masks → mask ≡ get_or masks r.class mask → IsFalse (not (eqb (bit_and mask r.mask) 0)) → IsApart masks r
apart_by masks r mask within is none = apart_of masks r mask within (is ∙ get_or_default masks r.class mask 0 within) (elim (eqb_tells (bit_and mask r.mask) 0) [
  | inl yes_ ↦ yes_.1
  | inr no_ ↦ absurd (let e = no_.0 in cc)
])

pub none_apart : (masks : List ℕ) → AreApart masks []
none_apart masks r c = absurd (contains_none r c)

pub apart_more : (rules : List NamedRule) (i : ℕ) (r : NamedRule) (masks : List ℕ) → i < length rules → r ≡ get_or rules i r → AreApart masks (take i rules) → IsApart masks r → AreApart masks (take (i + 1) rules)
apart_more rules i r masks within is before here q c =
    elim (Contains-append_cases (take i rules) (r ∷ []) q (subst (λ l. Contains l q) (take_more rules i r within ∙ ap (λ (z : NamedRule). take i rules ++ z ∷ []) (sym is)) c)) [
      | inl d ↦ before q d
      | inr d ↦ elim (contains_cases q r [] d) [ inl e ↦ subst (IsApart masks) e here | inr m ↦ absurd (contains_none q m) ]
    ]

pub apart_all : (rules : List NamedRule) (i : ℕ) (masks : List ℕ) → length rules ≤ i → AreApart masks (take i rules) → AreApart masks rules
apart_all rules i masks over are = subst (AreApart masks) (take_all i rules over) are

-- ---- overlaps

-- rules have no overlap with those without their permissions
pub no_overlap : (sets : List (List ℕ)) (forbidden all allowed : List NamedRule) (masks : List ℕ) → ((r : NamedRule) → Contains forbidden r → Contains all r) → AreIn all masks → AreApart masks allowed
    → (o : Overlap) → IsOverlap (map (rule_named [] sets) forbidden) (map (rule_named [] sets) allowed) o → ⊥
no_overlap sets forbidden all allowed masks among are apart o both =
    let (n, cn, en) = from_map (rule_named [] sets) forbidden both.first.rule both.first.is_rule in
    let (a, ca, ea) = from_map (rule_named [] sets) allowed both.second.rule both.second.is_rule in
    let away = apart a ca in
    let same : n.class ≡ a.class = ap (λ (r : Rule). r.class) en ∙ both.first.holds.of_class ∙ sym both.second.holds.of_class ∙ sym (ap (λ (r : Rule). r.class) ea) in
    let permits : IsBitSet n.mask o.bit = subst (λ (r : Rule). IsBitSet r.mask o.bit) (sym en) both.first.holds.permits in
    away.none o.bit (subst (λ (r : Rule). IsBitSet r.mask o.bit) (sym ea) both.second.holds.permits)
    (subst (λ k. IsBitSet (get_or masks k 0) o.bit) same (are n o.bit (among n cn) (subst (λ k. k < length masks) (sym same) away.within) permits))

-- ---- statements

-- those that are not kept are in no fault
module _ (at : ℕ → Item) (v : View) (forbidden allowed kept : List Stated) (all : List NamedRule) (masks : List ℕ) (among : (st : Stated) (r : NamedRule) → Contains forbidden st → Contains st.rules r → Contains all r)
    (are : AreIn all masks) (keeps : Keeps masks allowed kept) (f : Fault) where
  pub same_there : IsViolation at v forbidden kept f → IsViolation at v forbidden allowed f
  same_there w =
      record { statement = w.statement; is_statement = w.is_statement; meet = record { other = w.meet.other; is_other = keeps.among w.meet.other w.meet.is_other; meet = w.meet.meet } }

  pub same_back : IsViolation at v forbidden allowed f → IsViolation at v forbidden kept f
  same_back w = elim (keeps.rest w.meet.other w.meet.is_other) [
    | inl c ↦ record { statement = w.statement; is_statement = w.is_statement; meet = record { other = w.meet.other; is_other = c; meet = w.meet.meet } }
    | inr apart ↦ absurd (no_overlap v.sets.now w.statement.rules all w.meet.other.rules masks (λ r c. among w.statement r w.is_statement c) are apart w.meet.meet.overlap w.meet.meet.least.is)
  ]
