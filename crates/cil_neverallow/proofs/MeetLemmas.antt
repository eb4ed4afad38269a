-- Statements that meet no other: what one question to the index says.
use Rattle.std.specs.Prelude.{◌↔◌, Contains, IfSome, IsBitSet, MatchOption, None, Option, Some, bit_and, map}
use Rattle.std.specs.List.Sorted.{IsStrictlySortedBy}
use Rattle.std.proofs.Common.{Bool, zero, suc, ◌≡◌, ℕ, ◌+◌, ◌<◌, ◌≤◌, List, [], ◌∷◌, length, take, get_or, sym, ◌∙◌, subst, inl, inr, arith, ap, refl}
use Rattle.std.proofs.lemmas.List.{take_all}
use Rattle.cil_base.specs.Lists.{Lists, contains_cases, contains_none}
use Rattle.cil_base.specs.MadeLists.{contains_map, from_map}
use Rattle.cil_index.proofs.classes_lemmas.BitLemmas.{none_set, set_in_both}
use Rattle.cil_sets.specs.Answers.{IsNextFrom}
use Rattle.cil_index.specs.rules.Covers.{HasCover, Reaches}
use Rattle.cil_index.specs.conditions.Branch.{Branch}
use Rattle.cil_index.specs.conditions.Active.{is_active}
use Rattle.cil_index.specs.conditions.Order.{branch_cmp}
use Rattle.cil_index.specs.rules.Kept.{branch_named, rule_named, set_named, target_named}
use Rattle.cil_index.specs.rules.Order.{rule_cmp}
use Rattle.cil_index.specs.rules.Rule.{Rule}
use Rattle.cil_index.specs.rules.NamedRule.{NamedRule}
use Rattle.cil_index.specs.rules.Reach.{Reach}
use Rattle.cil_index.specs.rules.Reach.TheVariants as reaches
use Rattle.cil_neverallow.specs.declared.overlap.Overlap.{Overlap}
use Rattle.cil_neverallow.specs.Overlaps.{HaveIt, Holds, IsMet, IsOverlap}
use Rattle.cil_neverallow.specs.Stated.{Stated}
use Rattle.cil_neverallow.specs.declared.forbidden.View.{View}
use Rattle.cil_neverallow.specs.Violations.{AreAlways, AreAmong, rules_by}
use Rattle.cil_neverallow.proofs.LeastLemmas.{one_of}

-- what rules have, they cover
pub covered : (on : ℕ → Bool) (rules : List Rule) → AreAlways rules → (o : Overlap) → HaveIt rules o → HasCover on rules o.source o.target o.class o.bit
covered on rules always o have = record {
  rule = have.rule;
  is_rule = have.is_rule;
  covers = record { active = ap (is_active on) (always have.rule have.is_rule); has_source = have.holds.has_source; has_target = have.holds.has_target; of_class = have.holds.of_class; permits = have.holds.permits };
}

-- a set of one member has no other
pub only_one : (set : List ℕ) (t : ℕ) → length set ≡ 1 → Contains set t → (u : ℕ) → Contains set u → u ≡ t
only_one [] t one c u d = absurd (contains_none t c)
only_one (x ∷ []) t one c u d = sym (first u d) ∙ first t c
  where
    first : (w : ℕ) → Contains (x ∷ []) w → x ≡ w
    first w e = elim (contains_cases w x [] e) [ inl same ↦ same | inr n ↦ absurd (contains_none w n) ]
only_one (x ∷ y ∷ zs) t one c u d = absurd (omega (arith, one))

-- a rule of one type a side meets none, if none covers its permissions on them
pub meets_none : (on : ℕ → Bool) (r : Rule) (others : List Rule) → AreAlways others → (source target mask : ℕ) → ((u : ℕ) → Contains r.source u → u ≡ source) → ((u : ℕ) → Reaches r.target source u → u ≡ target)
    → ((bit : ℕ) → IsBitSet mask bit ↔ HasCover on others source target r.class bit) → bit_and mask r.mask ≡ 0 → (o : Overlap) → IsMet r others o → ⊥
meets_none on r others always source target mask only_source only_target covers empty o met =
    let s = only_source o.source met.first.has_source in
    let t = only_target o.target (subst (λ z. Reaches r.target z o.target) s met.first.has_target) in
    let c = met.first.of_class in
    let there = covered on others always o met.second in
    let here : HasCover on others source target r.class o.bit =
    subst (λ z. HasCover on others z target r.class o.bit) s (subst (λ z. HasCover on others o.source z r.class o.bit) t (subst (λ z. HasCover on others o.source o.target z o.bit) (sym c) there)) in
    none_set o.bit (subst (λ m. IsBitSet m o.bit) empty ((set_in_both mask r.mask o.bit).1 ((covers o.bit).1 here, met.first.permits)))

-- ---- rules, one after another

module _ (f : NamedRule → Rule) (xs : List NamedRule) (others : List Rule) (i : ℕ) where
  pub none_more : (x : NamedRule) → i < length xs → x ≡ get_or xs i x → ((o : Overlap) → IsOverlap (map f (take i xs)) others o → ⊥) → ((o : Overlap) → IsMet (f x) others o → ⊥)
      → (o : Overlap) → IsOverlap (map f (take (i + 1) xs)) others o → ⊥
  none_more x within is before here o both = elim (one_of f xs i x within is both.first.rule both.first.is_rule) [
    | inl c ↦ before o (record { first = record { rule = both.first.rule; is_rule = c; holds = both.first.holds }; second = both.second })
    | inr e ↦ here o (record { first = subst (λ (q : Rule). Holds q o) (sym e) both.first.holds; second = both.second })
  ]

  pub none_at_all : length xs ≤ i → ((o : Overlap) → IsOverlap (map f (take i xs)) others o → ⊥) → (o : Overlap) → IsOverlap (map f xs) others o → ⊥
  none_at_all over none o both = none o (subst (λ zs. IsOverlap (map f zs) others o) (sym (take_all i xs over)) both)

pub none_first : (others : List Rule) (o : Overlap) → IsOverlap [] others o → ⊥
none_first others o both = contains_none both.first.rule both.first.is_rule

-- ---- statements

-- a statement that meets none of all rules meets no statement
pub no_statement : (v : View) (n : Stated) (allowed : List Stated) (rules : List Rule) → AreAmong v allowed rules → ((o : Overlap) → IsOverlap (rules_by v n) rules o → ⊥)
    → (a : Stated) → Contains allowed a → (o : Overlap) → IsOverlap (rules_by v n) (rules_by v a) o → ⊥
no_statement v n allowed rules among none a c o both =
    none o (record { first = both.first; second = record { rule = both.second.rule; is_rule = among a both.second.rule c both.second.is_rule; holds = both.second.holds } })

-- a target that is a word reaches the one type for which the word stands
pub only_reached : (sets : List (List ℕ)) (target : Reach) (number : ℕ) → target ≡ reaches.Types number → (source : ℕ) (found : Option ℕ)
    → IfSome found (λ t. (u : ℕ) → Contains (set_named sets number) u → u ≡ t) → IfSome found (λ t. (u : ℕ) → Reaches (target_named sets target) source u → u ≡ t)
only_reached sets target number is source None only = tt
only_reached sets target number is source (Some t) only = λ u r. only u (subst (λ z. Reaches (target_named sets z) source u) is r)

-- what is found in a set of one member is that member
pub only_found : (set named : List ℕ) (found : Option ℕ) → set ≡ named → length set ≡ 1 → MatchOption found ((v : ℕ) → Contains set v → 0 ≤ v → ⊥) (IsNextFrom set 0)
    → IfSome found (λ t. (u : ℕ) → Contains named u → u ≡ t)
only_found set named None e one is = tt
only_found set named (Some t) e one is = λ u c. only_one set t one is.member u (subst (λ z. Contains z u) (sym e) c)

-- what is listed of all rules has those of each statement
pub all_among : (v : View) (sts : List Stated) (rules : List NamedRule) (listed : List Rule) → ((st : Stated) (r : NamedRule) → Contains sts st → Contains st.rules r → Contains rules r)
    → Lists rule_cmp (Contains (map (rule_named [] v.sets.now) rules)) listed → AreAmong v sts listed
all_among v sts rules listed all are st r c d =
    let (q, cq, e) = from_map (rule_named [] v.sets.now) st.rules r d in
    (are.members r).1 (subst (Contains (map (rule_named [] v.sets.now) rules)) e (contains_map (rule_named [] v.sets.now) rules q (all st q c cq)))

-- rules of no branch are in none
bare : (sets : List (List ℕ)) (q : NamedRule) (number : ℕ) → number ≡ q.branch → (rule_named [] sets q).branch ≡ None
bare sets q zero e = ap (branch_named []) (sym e)
bare sets q (suc n) e = ap (branch_named []) (sym e)

pub all_always : (sets : List (List ℕ)) (rules : List NamedRule) (listed : List Rule) → Lists rule_cmp (Contains (map (rule_named [] sets) rules)) listed → AreAlways listed
all_always sets rules listed are r c =
    let (q, cq, e) = from_map (rule_named [] sets) rules r ((are.members r).0 c) in ap (λ (z : Rule). z.branch) (sym e) ∙ bare sets q q.branch refl

pub no_branches : IsStrictlySortedBy branch_cmp []
unfolding IsStrictlySortedBy
no_branches = tt

-- what is listed of no branches and a copy of the rules
pub listed_bare : (sets : List (List ℕ)) (branches : List Branch) (copy rules : List NamedRule) (listed : List Rule) → branches ≡ [] → copy ≡ rules
    → Lists rule_cmp (Contains (map (rule_named branches sets) copy)) listed → Lists rule_cmp (Contains (map (rule_named [] sets) rules)) listed
listed_bare sets branches copy rules listed none same are =
    subst (λ bs. Lists rule_cmp (Contains (map (rule_named bs sets) rules)) listed) none (subst (λ l. Lists rule_cmp (Contains (map (rule_named branches sets) l)) listed) same are)
