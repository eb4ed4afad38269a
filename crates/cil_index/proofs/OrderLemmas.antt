-- Rules by numbers stand in the order of the rules.
use Rattle.std.specs.Prelude.{zero, suc, Contains, Option, None, Some, slice_get}
use Rattle.std.specs.Cmp.{IsTotalOrder}
use Rattle.std.specs.Ordering.{eq_by_cmp, nat_cmp, ordering_reverse, ordering_then}
use Rattle.std.specs.declared.cmp.Ordering.{Ordering}
use Rattle.std.specs.declared.cmp.Ordering.TheVariants.{Less, Equal, Greater}
use Rattle.std.specs.List.{AllByRecursion}
use Rattle.std.specs.List.Retain.{DiffersFromLast, IsFiltered}
use Rattle.std.specs.List.Sorted.{IsPermutation, IsSorted, IsStrictlySortedBy}
use Rattle.std.proofs.Common.{◌≡◌, ℕ, ◌+◌, ◌<◌, ◌≤◌, List, [], ◌∷◌, ◌++◌, length, map, get_or, take, refl, sym, ◌∙◌, ap, subst, inl, inr, arith}
use Rattle.std.proofs.lemmas.Bool.{cases_lt}
use Rattle.std.proofs.lemmas.Cmp.{nat_cmp_total}
use Rattle.std.proofs.lemmas.List.{get_or-map, get_or_default, length-map, map-append, take_all, take_more}
use Rattle.std.proofs.lemmas.List.Elements.{Contains-append_cases}
use Rattle.std.proofs.lemmas.Map.Keys.{Less-from_sorted}
use Rattle.cil_base.proofs.SortedLists.{sorted_list}
use Rattle.cil_base.specs.Lists.{Lists, contains_cases, contains_here, contains_later, contains_none, text_cmp}
use Rattle.cil_base.specs.MadeLists.{contains_map, from_map}
use Rattle.cil_base.specs.Paths.{both_equal, equal_from, its_own, less_from, same_by}
use Rattle.cil_base.specs.Places.{get_so, in_range, is_there, not_there}
use Rattle.cil_rules.specs.conditions.Branch.{Branch}
use Rattle.cil_rules.specs.conditions.Order.{branch_cmp, branch_total}
use Rattle.cil_rules.specs.Order.{in_branch_cmp, in_branch_total, rule_cmp, same_rules, some_branch, target_fields}
use Rattle.cil_rules.specs.declared.rule.NamedRule.{NamedRule}
use Rattle.cil_rules.specs.Rule.{Rule, Itself}
use Rattle.cil_sets.specs.Answers.{set_cmp, set_total}
use Rattle.cil_index.specs.declared.record.Record.{Record}
use Rattle.cil_rules.specs.declared.rule.Reach.TheVariants as reaches
use Rattle.cil_rules.specs.Kept.{branch_named, rule_named, target_named}
use Rattle.cil_index.specs.Kept.{reached, rule_of, target_at}
use Rattle.cil_index.specs.Order.{AreWithin, IsWithin, record_cmp, record_total}
use Rattle.cil_index.specs.Sets.{AreNumbered, set_of}

-- numbers of a rising list compare as what they stand for
module _ {X : Type 0} (order : X → X → Ordering) (total : IsTotalOrder order) (xs : List X) (rising : IsStrictlySortedBy order xs) where
  below : (i j : ℕ) (d e : X) → i < j → j < length xs → order (get_or xs i d) (get_or xs j e) ≡ Less
  below i j d e less lj =
      subst (λ y. order (get_or xs i d) y ≡ Less) (get_or_default xs j d e lj) (Less-from_sorted order xs i j d rising less lj)

  pub number_cmp : (i j : ℕ) (d e : X) → i < length xs → j < length xs → nat_cmp i j ≡ order (get_or xs i d) (get_or xs j e)
  number_cmp i j d e li lj =
      elim (cases_lt i j) [
        | inl less ↦ less_from i j less ∙ sym (below i j d e less lj)
        | inr ge ↦ elim (cases_lt j i) [
          | inl more ↦ nat_cmp_total.antisymm i j ∙ ap ordering_reverse (less_from j i more ∙ sym (below j i e d more li)) ∙ sym (total.antisymm (get_or xs i d) (get_or xs j e))
          | inr le ↦ let same : i ≡ j = omega (arith, ge, le) in
              let value : get_or xs i d ≡ get_or xs j e = ap (λ k. get_or xs k d) same ∙ get_or_default xs j d e lj in
              equal_from i j same ∙ sym (its_own (order (get_or xs j e) (get_or xs j e)) (total.antisymm (get_or xs j e) (get_or xs j e))) ∙ ap (λ x. order x (get_or xs j e)) (sym value)
        ]
      ]

then_equal : (o : Ordering) → ordering_then o Equal ≡ o
then_equal Less = refl
then_equal Equal = refl
then_equal Greater = refl

to_map : {X Y : Type 0} (f : X → Y) (xs : List X) (x : X) (y : Y) → Contains xs x → f x ≡ y → Contains (map f xs) y
to_map f xs x y c e = subst (Contains (map f xs)) e (contains_map f xs x c)

suc_cmp : (i j : ℕ) → nat_cmp (suc i) (suc j) ≡ nat_cmp i j
suc_cmp i j =
    elim (cases_lt i j) [
      | inl less ↦ less_from (suc i) (suc j) (omega (arith, less)) ∙ sym (less_from i j less)
      | inr ge ↦ elim (cases_lt j i) [
        | inl more ↦ nat_cmp_total.antisymm (suc i) (suc j) ∙ ap ordering_reverse (less_from (suc j) (suc i) (omega (arith, more)) ∙ sym (less_from j i more))
            ∙ sym (nat_cmp_total.antisymm i j)
        | inr le ↦ equal_from (suc i) (suc j) (omega (arith, ge, le)) ∙ sym (equal_from i j (omega (arith, ge, le)))
      ]
    ]

-- numbers of branches compare as the branches
module _ (branches : List Branch) (rise : IsStrictlySortedBy branch_cmp branches) where
  none_first : (j : ℕ) → j < length branches → nat_cmp 0 (suc j) ≡ in_branch_cmp None (slice_get branches j)
  none_first j within = less_from 0 (suc j) (omega arith) ∙ sym (ap (in_branch_cmp None) (is_there branches j (some_branch None) within))

  some_later : (i : ℕ) → i < length branches → nat_cmp (suc i) 0 ≡ in_branch_cmp (slice_get branches i) None
  some_later i within = nat_cmp_total.antisymm (suc i) 0 ∙ ap ordering_reverse (less_from 0 (suc i) (omega arith)) ∙ sym (ap (λ b. in_branch_cmp b None) (is_there branches i (some_branch None) within))

  both_there : (i j : ℕ) → i < length branches → j < length branches → nat_cmp (suc i) (suc j) ≡ in_branch_cmp (slice_get branches i) (slice_get branches j)
  both_there i j li lj =
      suc_cmp i j
      ∙ number_cmp branch_cmp branch_total branches rise i j (some_branch None) (some_branch None) li lj
      ∙ sym (λ k. in_branch_cmp (is_there branches i (some_branch None) li k) (is_there branches j (some_branch None) lj k))

  pub numbers_cmp : (a b : ℕ) → a ≤ length branches → b ≤ length branches → nat_cmp a b ≡ in_branch_cmp (branch_named branches a) (branch_named branches b)
  numbers_cmp zero zero wa wb = sym (its_own (in_branch_cmp None None) (in_branch_total.antisymm None None))
  numbers_cmp zero (suc j) wa wb = none_first j (omega (arith, wb))
  numbers_cmp (suc i) zero wa wb = some_later i (omega (arith, wa))
  numbers_cmp (suc i) (suc j) wa wb = both_there i j (omega (arith, wa)) (omega (arith, wb))

module _ (branches : List Branch) (branches_rise : IsStrictlySortedBy branch_cmp branches) (sets : List (List ℕ)) (rise : IsStrictlySortedBy set_cmp sets) where
  source_cmp : (i j : ℕ) → i < length sets → j < length sets → nat_cmp i j ≡ set_cmp (set_of sets i) (set_of sets j)
  source_cmp i j li lj = number_cmp set_cmp set_total sets rise i j [] [] li lj

  -- what is reached by two numbers, where these are the sets there
  reached_cmp : (a b : ℕ) (x y : Option (List ℕ)) → slice_get sets a ≡ x → slice_get sets b ≡ y → nat_cmp a b ≡ text_cmp (target_fields (reached x)) (target_fields (reached y))
      → nat_cmp a b ≡ text_cmp (target_fields (target_at sets a)) (target_fields (target_at sets b))
  reached_cmp a b x y at_a at_b same = same ∙ sym (λ k. text_cmp (target_fields (reached (at_a k))) (target_fields (reached (at_b k))))

  -- sets stand before the source itself
  targets_cmp : (a b : ℕ) → a ≤ length sets → b ≤ length sets → nat_cmp a b ≡ text_cmp (target_fields (target_at sets a)) (target_fields (target_at sets b))
  targets_cmp a b wa wb = elim (cases_lt a (length sets)) [
    | inl la ↦ elim (cases_lt b (length sets)) [
      | inl lb ↦ reached_cmp a b _ _ (is_there sets a [] la) (is_there sets b [] lb) (source_cmp a b la lb)
      | inr gb ↦ reached_cmp a b _ _ (is_there sets a [] la) (not_there sets b gb) (less_from a b (omega (arith, la, gb)))
    ]
    | inr ga ↦ elim (cases_lt b (length sets)) [
      | inl lb ↦ reached_cmp a b _ _ (not_there sets a ga) (is_there sets b [] lb) (nat_cmp_total.antisymm a b ∙ ap ordering_reverse (less_from b a (omega (arith, lb, ga))))
      | inr gb ↦ reached_cmp a b _ _ (not_there sets a ga) (not_there sets b gb) (equal_from a b (omega (arith, wa, wb, ga, gb)))
    ]
  ]

  -- records compare as their rules
  pub records_cmp : (a b : Record) → IsWithin branches sets a → IsWithin branches sets b → record_cmp a b ≡ rule_cmp (rule_of branches sets a) (rule_of branches sets b)
  records_cmp a b wa wb = λ i.
      ordering_then (ordering_then (ordering_then (ordering_then (numbers_cmp branches branches_rise a.branch b.branch wa.branch wb.branch i) (source_cmp a.source b.source wa.source wb.source i)) (targets_cmp a.target b.target wa.target wb.target i)) (nat_cmp a.class b.class))
      (nat_cmp a.mask b.mask)

  all_below : (r : Record) (rs : List Record) → AreWithin branches sets (r ∷ rs) → AllByRecursion (λ q. record_cmp r q ≡ Less) rs
      → AllByRecursion (λ q. rule_cmp (rule_of branches sets r) q ≡ Less) (map (rule_of branches sets) rs)
  all_below r [] within all = tt
  all_below r (q ∷ rs) within all = (
    sym (records_cmp r q (within r (contains_here r (q ∷ rs))) (within q (contains_later q r (q ∷ rs) (contains_here q rs)))) ∙ all.0,
    all_below r rs (λ x c. elim (contains_cases x r rs c) [
      | inl e ↦ within x (subst (Contains (r ∷ q ∷ rs)) e (contains_here r (q ∷ rs)))
      | inr d ↦ within x (contains_later x r (q ∷ rs) (contains_later x q rs d))
    ]) all.1,
  )

  -- records that rise stand for rules that rise
  rules_rise : (rs : List Record) → AreWithin branches sets rs → IsStrictlySortedBy record_cmp rs → IsStrictlySortedBy rule_cmp (map (rule_of branches sets) rs)
  unfolding IsStrictlySortedBy
  rules_rise [] within rising = tt
  rules_rise (r ∷ rs) within rising = (all_below r rs within rising.0, rules_rise rs (λ x c. within x (contains_later x r rs c)) rising.1)

  rules_listed : (raw rs : List Record) → AreWithin branches sets raw → Lists record_cmp (Contains raw) rs
      → Lists rule_cmp (Contains (map (rule_of branches sets) raw)) (map (rule_of branches sets) rs)
  rules_listed raw rs within listed = record {
    rising = rules_rise rs (λ r c. within r ((listed.members r).0 c)) listed.rising;
    members = λ x. (
      λ c. let r = from_map (rule_of branches sets) rs x c in to_map (rule_of branches sets) raw r.0 x ((listed.members r.0).0 r.1) r.2,
      λ c. let r = from_map (rule_of branches sets) raw x c in to_map (rule_of branches sets) rs r.0 x ((listed.members r.0).1 r.1) r.2,
    );
  }

  -- what a sort of records leaves without its repeats is the list of their rules
  pub records_listed : (rules : List Rule) (raw ys zs : List Record) → map (rule_of branches sets) raw ≡ rules → AreWithin branches sets raw → IsPermutation raw ys → IsSorted record_cmp ys
      → IsFiltered (DiffersFromLast (eq_by_cmp record_cmp)) [] ys zs → Lists rule_cmp (Contains rules) (map (rule_of branches sets) zs)
  records_listed rules raw ys zs are within moved sorted kept =
      subst (λ rs. Lists rule_cmp (Contains rs) (map (rule_of branches sets) zs)) are (rules_listed raw zs within (sorted_list record_cmp record_total exact_records raw ys zs moved sorted kept))
    where
      one_record : (a b : Record) → a.branch ≡ b.branch → a.source ≡ b.source → a.target ≡ b.target → a.class ≡ b.class → a.mask ≡ b.mask → a ≡ b
      one_record a b o s t c m = λ i. record { branch = o i; source = s i; target = t i; class = c i; mask = m i }

      -- two records that tie are one
      exact_records : (a b : Record) → record_cmp a b ≡ Equal → a ≡ b
      exact_records a b e =
          let mask = both_equal _ _ e in
          let class_ = both_equal _ _ mask.0 in
          let target = both_equal _ _ class_.0 in
          let source = both_equal _ _ target.0 in
          one_record a b (same_by _ _ source.0) (same_by _ _ source.1) (same_by _ _ target.1) (same_by _ _ class_.1) (same_by _ _ mask.1)

-- ---- records, one by one

module _ (branches : List Branch) (sets : List (List ℕ)) where
  -- the records of the first rules, and one more
  pub record_more : (rules : List Rule) (i : ℕ) (v : Rule) (r : Record) (old new : List Record) → i < length rules → v ≡ get_or rules i v → rule_of branches sets r ≡ v
      → IsWithin branches sets r → new ≡ old ++ r ∷ [] → (map (rule_of branches sets) old ≡ take i rules) × AreWithin branches sets old → (map (rule_of branches sets) new ≡ take (i + 1) rules) × AreWithin branches sets new
  record_more rules i v r old new less is keeps inside push so_far = (
    ap (map (rule_of branches sets)) push ∙ map-append (rule_of branches sets) old (r ∷ []) ∙ (λ k. so_far.0 k ++ keeps k ∷ [])
        ∙ sym (take_more rules i v less ∙ ap (λ (x : Rule). take i rules ++ x ∷ []) (sym is)),
    λ x c. elim (Contains-append_cases old (r ∷ []) x (subst (λ (z : List Record). Contains z x) push c)) [
      | inl d ↦ so_far.1 x d
      | inr d ↦ elim (contains_cases x r [] d) [ inl e ↦ subst (IsWithin branches sets) e inside | inr none ↦ absurd (contains_none x none) ]
    ],
  )

  pub record_all : (rules : List Rule) (i : ℕ) (records : List Record) → length rules ≤ i → map (rule_of branches sets) records ≡ take i rules → map (rule_of branches sets) records ≡ rules
  record_all rules i records over are = are ∙ take_all i rules over

  pub no_record : (rules : List Rule) (records : List Record) → records ≡ [] → (map (rule_of branches sets) records ≡ take 0 rules) × AreWithin branches sets records
  no_record rules records none = (ap (map (rule_of branches sets)) none, λ x c. absurd (contains_none x (subst (λ (z : List Record). Contains z x) none c)))

-- the number behind all sets stands for the source itself
pub itself_is : (distinct : List (List ℕ)) (n : ℕ) → n ≡ length distinct → (target_at distinct n ≡ Itself) × (n ≤ length distinct)
itself_is distinct n is = (ap reached (not_there distinct n (omega (arith, is))), omega (arith, is))

-- a rule by the numbers of sets is the one by declared names
module _ (branches : List Branch) (distinct named : List (List ℕ)) (numbers : List ℕ) (are : AreNumbered distinct named numbers) where
  at_number : (n d : ℕ) → n ≡ get_or numbers d 0 → slice_get distinct n ≡ Some (set_of named d)
  at_number n d is = ap (slice_get distinct) is ∙ are d

  pub reach_is : (n d : ℕ) → n ≡ get_or numbers d 0 → (target_at distinct n ≡ target_named named (reaches.Types d)) × (n ≤ length distinct)
  reach_is n d is = (ap reached (at_number n d is), let less = in_range distinct n (set_of named d) (at_number n d is) in omega (arith, less))

  pub kept_is : (r : NamedRule) (b n t : ℕ) → branch_named branches b ≡ branch_named branches r.branch → b ≤ length branches → n ≡ get_or numbers r.source 0
      → (target_at distinct t ≡ target_named named r.target) × (t ≤ length distinct)
      → (rule_of branches distinct (record { branch = b; source = n; target = t; class = r.class; mask = r.mask }) ≡ rule_named branches named r)
      × IsWithin branches distinct (record { branch = b; source = n; target = t; class = r.class; mask = r.mask })
  kept_is r b n t same within is reaches = (
    same_rules _ (rule_named branches named r) same (get_so distinct n (set_of named r.source) [] (at_number n r.source is)) reaches.0 refl refl,
    record { branch = within; source = in_range distinct n (set_of named r.source) (at_number n r.source is); target = reaches.1 },
  )

  -- the records of the first rules, and one more
  pub named_more : (rules : List NamedRule) (i : ℕ) (d : NamedRule) (r : Record) (old new : List Record) → i < length rules
      → (rule_of branches distinct r ≡ rule_named branches named (get_or rules i d)) × IsWithin branches distinct r → new ≡ old ++ r ∷ []
      → (map (rule_of branches distinct) old ≡ take i (map (rule_named branches named) rules)) × AreWithin branches distinct old
      → (map (rule_of branches distinct) new ≡ take (i + 1) (map (rule_named branches named) rules)) × AreWithin branches distinct new
  named_more rules i d r old new less keeps push so_far =
      record_more branches distinct (map (rule_named branches named) rules) i (rule_named branches named (get_or rules i d)) r old new (let size = length-map rules (rule_named branches named) in omega (arith, less, size))
      (sym (get_or-map (rule_named branches named) rules i d (rule_named branches named (get_or rules i d)) less)) keeps.0 keeps.1 push so_far

  pub named_all : (rules : List NamedRule) (i : ℕ) (records : List Record) → length rules ≤ i
      → (map (rule_of branches distinct) records ≡ take i (map (rule_named branches named) rules)) × AreWithin branches distinct records
      → (map (rule_of branches distinct) records ≡ map (rule_named branches named) rules) × AreWithin branches distinct records
  named_all rules i records over so_far = (
    record_all branches distinct (map (rule_named branches named) rules) i records (let size = length-map rules (rule_named branches named) in omega (arith, over, size)) so_far.0,
    so_far.1,
  )
