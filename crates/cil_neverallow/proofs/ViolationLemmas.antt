-- The faults of pairs of statements, one after another.
use Rattle.std.specs.Prelude.{◌↔◌, Contains}
use Rattle.std.proofs.Common.{◌≡◌, ◌⊎◌, ℕ, ◌+◌, ◌<◌, ◌≤◌, List, [], ◌∷◌, ◌++◌, length, take, sym, ◌∙◌, ap, subst, inl, inr}
use Rattle.std.proofs.lemmas.List.{take_all, take_more}
use Rattle.std.proofs.lemmas.List.Elements.{Contains-append_cases, Contains-append_left, Contains-append_right, Contains-get_or}
use Rattle.cil_base.specs.Lists.{contains_cases, contains_here, contains_none}
use Rattle.cil_faults.specs.declared.code.FaultCode.TheVariants as causes
use Rattle.cil_faults.specs.declared.fault.Fault.{Fault}
use Rattle.cil_faults.specs.Reported.{fault_at}
use Rattle.cil_macros.specs.Item.{Item}
use Rattle.cil_neverallow.specs.declared.overlap.Overlap.{Overlap}
use Rattle.cil_neverallow.specs.declared.forbidden.View.{View}
use Rattle.cil_neverallow.specs.Overlaps.{IsLeastOf, IsOverlap}
use Rattle.cil_neverallow.specs.Stated.{Stated, nothing_stated, stated_at}
use Rattle.cil_neverallow.specs.Violations.{IsOne, IsPair, IsViolation, rules_by, told_by}
use Rattle.cil_neverallow.proofs.LeastLemmas.{one_least}

-- a statement of a list is among it
pub stated_there : (sts : List Stated) (k : ℕ) → k < length sts → Contains sts (stated_at sts k)
stated_there sts k within = Contains-get_or sts k nothing_stated within

module _ (at : ℕ → Item) (v : View) where
  -- statements without an overlap have no fault
  pub no_pair : (n a : Stated) (old : List Fault) → ((o : Overlap) → IsOverlap (rules_by v n) (rules_by v a) o → ⊥) → (f : Fault) → Contains old f ↔ (Contains old f ⊎ IsPair at v n a f)
  no_pair n a old none f = (
    λ c. inl c,
    λ e. elim e [
      | inl c ↦ c
      | inr p ↦ absurd (none p.overlap p.least.is)
    ],
  )

  -- two that have one have a fault
  pub one_pair : (n a : Stated) (old new : List Fault) (o : Overlap) → IsLeastOf (IsOverlap (rules_by v n) (rules_by v a)) o
      → new ≡ old ++ fault_at causes.NeverAllow (at n.place).at (at n.place).space (told_by v (at a.place).at o) ∷ []
      → (f : Fault) → Contains new f ↔ (Contains old f ⊎ IsPair at v n a f)
  one_pair n a old new o least push f =
      let g = fault_at causes.NeverAllow (at n.place).at (at n.place).space (told_by v (at a.place).at o) in (
        λ c. elim (Contains-append_cases old (g ∷ []) f (subst (λ z. Contains z f) push c)) [
          | inl d ↦ inl d
          | inr d ↦ elim (contains_cases f g [] d) [ inl e ↦ inr (record { overlap = o; least = least; is = sym e }) | inr m ↦ absurd (contains_none f m) ]
        ],
        λ e. subst (λ z. Contains z f) (sym push) (elim e [
          | inl c ↦ Contains-append_left old (g ∷ []) f c
          | inr p ↦ let same : g ≡ f = ap (λ (z : Overlap). fault_at causes.NeverAllow (at n.place).at (at n.place).space (told_by v (at a.place).at z))
              (one_least (IsOverlap (rules_by v n) (rules_by v a)) o p.overlap least p.least) ∙ sym p.is in
              Contains-append_right old (g ∷ []) f (subst (Contains (g ∷ [])) same (contains_here g []))
        ]),
      )

  module _ (n : Stated) (allowed : List Stated) (i : ℕ) (a : Stated) (within : i < length allowed) (is : a ≡ stated_at allowed i) where
    taken : take (i + 1) allowed ≡ take i allowed ++ a ∷ []
    taken = take_more allowed i nothing_stated within ∙ ap (λ (z : Stated). take i allowed ++ z ∷ []) (sym is)

    one_there : (f : Fault) → IsOne at v n (take i allowed) f ⊎ IsPair at v n a f → IsOne at v n (take (i + 1) allowed) f
    one_there f e = elim e [
      | inl o ↦ record { other = o.other; is_other = subst (λ z. Contains z o.other) (sym taken) (Contains-append_left (take i allowed) (a ∷ []) o.other o.is_other); meet = o.meet }
      | inr p ↦ record { other = a; is_other = subst (λ z. Contains z a) (sym taken) (Contains-append_right (take i allowed) (a ∷ []) a (contains_here a [])); meet = p }
    ]

    one_back : (f : Fault) → IsOne at v n (take (i + 1) allowed) f → IsOne at v n (take i allowed) f ⊎ IsPair at v n a f
    one_back f o = elim (Contains-append_cases (take i allowed) (a ∷ []) o.other (subst (λ z. Contains z o.other) taken o.is_other)) [
      | inl d ↦ inl (record { other = o.other; is_other = d; meet = o.meet })
      | inr d ↦ elim (contains_cases o.other a [] d) [
        | inl e ↦ inr (subst (λ (z : Stated). IsPair at v n z f) (sym e) o.meet)
        | inr m ↦ absurd (contains_none o.other m)
      ]
    ]

    -- one allow statement more
    pub pairs_more : (first old new : List Fault) → ((f : Fault) → Contains old f ↔ (Contains first f ⊎ IsOne at v n (take i allowed) f))
        → ((f : Fault) → Contains new f ↔ (Contains old f ⊎ IsPair at v n a f)) → (f : Fault) → Contains new f ↔ (Contains first f ⊎ IsOne at v n (take (i + 1) allowed) f)
    pairs_more first old new so_far step f = (
      λ c. elim ((step f).0 c) [
        | inl d ↦ elim ((so_far f).0 d) [ inl x ↦ inl x | inr o ↦ inr (one_there f (inl o)) ]
        | inr p ↦ inr (one_there f (inr p))
      ],
      λ e. (step f).1 (elim e [
        | inl x ↦ inl ((so_far f).1 (inl x))
        | inr o ↦ elim (one_back f o) [ inl w ↦ inl ((so_far f).1 (inr w)) | inr p ↦ inr p ]
      ]),
    )

  pub no_pairs : (n : Stated) (first : List Fault) (f : Fault) → Contains first f ↔ (Contains first f ⊎ IsOne at v n [] f)
  no_pairs n first f = (λ c. inl c, λ e. elim e [ inl c ↦ c | inr o ↦ absurd (contains_none o.other o.is_other) ])

  pub all_pairs : (n : Stated) (allowed : List Stated) (i : ℕ) (first faults : List Fault) → length allowed ≤ i
      → ((f : Fault) → Contains faults f ↔ (Contains first f ⊎ IsOne at v n (take i allowed) f)) → (f : Fault) → Contains faults f ↔ (Contains first f ⊎ IsOne at v n allowed f)
  all_pairs n allowed i first faults over are f = subst (λ z. Contains faults f ↔ (Contains first f ⊎ IsOne at v n z f)) (take_all i allowed over) (are f)

  -- a neverallow statement without an overlap with any
  pub no_one : (n : Stated) (allowed : List Stated) (old : List Fault) → ((a : Stated) → Contains allowed a → (o : Overlap) → IsOverlap (rules_by v n) (rules_by v a) o → ⊥)
      → (f : Fault) → Contains old f ↔ (Contains old f ⊎ IsOne at v n allowed f)
  no_one n allowed old none f = (
    λ c. inl c,
    λ e. elim e [
      | inl c ↦ c
      | inr o ↦ absurd (none o.other o.is_other o.meet.overlap o.meet.least.is)
    ],
  )

  module _ (forbidden allowed : List Stated) (i : ℕ) (n : Stated) (within : i < length forbidden) (is : n ≡ stated_at forbidden i) where
    taken_here : take (i + 1) forbidden ≡ take i forbidden ++ n ∷ []
    taken_here = take_more forbidden i nothing_stated within ∙ ap (λ (z : Stated). take i forbidden ++ z ∷ []) (sym is)

    -- one neverallow statement more
    pub violations_more : (old new : List Fault) → ((f : Fault) → Contains old f ↔ IsViolation at v (take i forbidden) allowed f)
        → ((f : Fault) → Contains new f ↔ (Contains old f ⊎ IsOne at v n allowed f)) → (f : Fault) → Contains new f ↔ IsViolation at v (take (i + 1) forbidden) allowed f
    violations_more old new so_far step f = (
      λ c. elim ((step f).0 c) [
        | inl d ↦ let w = (so_far f).0 d in
            record { statement = w.statement; is_statement = subst (λ z. Contains z w.statement) (sym taken_here) (Contains-append_left (take i forbidden) (n ∷ []) w.statement w.is_statement); meet = w.meet }
        | inr o ↦ record { statement = n; is_statement = subst (λ z. Contains z n) (sym taken_here) (Contains-append_right (take i forbidden) (n ∷ []) n (contains_here n [])); meet = o }
      ],
      λ w. (step f).1 (elim (Contains-append_cases (take i forbidden) (n ∷ []) w.statement (subst (λ z. Contains z w.statement) taken_here w.is_statement)) [
        | inl d ↦ inl ((so_far f).1 (record { statement = w.statement; is_statement = d; meet = w.meet }))
        | inr d ↦ elim (contains_cases w.statement n [] d) [
          | inl e ↦ inr (subst (λ (z : Stated). IsOne at v z allowed f) (sym e) w.meet)
          | inr m ↦ absurd (contains_none w.statement m)
        ]
      ]),
    )

  pub no_violation : (allowed : List Stated) (f : Fault) → Contains [] f ↔ IsViolation at v [] allowed f
  no_violation allowed f = (λ c. absurd (contains_none f c), λ w. absurd (contains_none w.statement w.is_statement))

  module _ (forbidden allowed : List Stated) (i : ℕ) (faults : List Fault) (over : length forbidden ≤ i) (are : (f : Fault) → Contains faults f ↔ IsViolation at v (take i forbidden) allowed f) where
    pub all_there : (f : Fault) → Contains faults f → IsViolation at v forbidden allowed f
    all_there f c = subst (λ z. IsViolation at v z allowed f) (take_all i forbidden over) ((are f).0 c)

    pub all_back : (f : Fault) → IsViolation at v forbidden allowed f → Contains faults f
    all_back f w = (are f).1 (subst (λ z. IsViolation at v z allowed f) (sym (take_all i forbidden over)) w)

-- the place of a statement is one of those
pub place_there : (sts : List Stated) (k n : ℕ) → ((st : Stated) → Contains sts st → st.place < n) → k < length sts → (st : Stated) → st ≡ stated_at sts k → st.place < n
place_there sts k n below within st is = below st (subst (Contains sts) (sym is) (stated_there sts k within))
