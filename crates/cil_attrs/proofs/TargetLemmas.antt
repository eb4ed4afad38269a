-- What statements say of aliases, by the numbers of entries.
use Rattle.std.proofs.Common.{◌≡◌, ◌⊎◌, ◌↔◌, ℕ, zero, suc, ◌+◌, ◌<◌, ◌≤◌, Bool, true, false, not, List, [], ◌∷◌, ◌++◌, get_or, length, map, take, refl, sym, ◌∙◌, ap, subst, inl, inr, arith}
use Rattle.std.specs.Prelude.{Contains, MatchOption, Option, Some, None, set}
use Rattle.std.specs.Option.{is_some}
use Rattle.std.proofs.lemmas.Bool.{cases_eq, true≢false}
use Rattle.std.proofs.lemmas.List.{get_or-set_other, get_or-set_same, take_all, take_more}
use Rattle.cil_base.specs.Places.{contains_at}
use Rattle.std.proofs.lemmas.List.Elements.{Contains-append_cases, Contains-append_left, Contains-append_right}
use Rattle.std.proofs.lemmas.Option.{none-some, same_Some}
use Rattle.cil_base.specs.Lists.{contains_cases, contains_here, contains_none}
use Rattle.cil_attrs.specs.declared.targets.Step.{Step}
use Rattle.cil_attrs.specs.Targets.{AreLast, HasNoStep, HasOther, HasStep, HasTwoSteps, IsFlagged, IsOther}

-- ---- the step at a place

abbrev pub step_there : List Step → ℕ → Step
step_there steps i = get_or steps i (record { alias = 0; target = 0; at = 0 })

pub step_taken : (steps : List Step) (i : ℕ) → i < length steps → take (i + 1) steps ≡ take i steps ++ step_there steps i ∷ []
step_taken steps i l = take_more steps i (record { alias = 0; target = 0; at = 0 }) l

pub is_there : (steps : List Step) (i : ℕ) → i < length steps → Contains steps (step_there steps i)
is_there steps i l = contains_at steps i (step_there steps i) (record { alias = 0; target = 0; at = 0 }) l refl

-- ---- the last steps

module _ (steps : List Step) where
  nobody : (zs : List Step) (s : Step) → Contains (take 0 zs) s → ⊥
  nobody [] s c = contains_none s c
  nobody (z ∷ zs) s c = contains_none s c

  pub no_lasts : (lasts : List (Option ℕ)) → ((d : ℕ) → get_or lasts d None ≡ None) → AreLast (take 0 steps) lasts
  no_lasts lasts none d = subst (λ o. MatchOption o (HasNoStep (take 0 steps) d) (HasStep (take 0 steps) d)) (sym (none d)) (λ b h. nobody steps h.step h.is_step)

  module _ (n : ℕ) (x : Step) (taken : take (n + 1) steps ≡ take n steps ++ x ∷ []) where
    here : Contains (take (n + 1) steps) x
    here = subst (λ z. Contains z x) (sym taken) (Contains-append_right (take n steps) (x ∷ []) x (contains_here x []))

    before : (s : Step) → Contains (take n steps) s → Contains (take (n + 1) steps) s
    before s c = subst (λ z. Contains z s) (sym taken) (Contains-append_left (take n steps) (x ∷ []) s c)

    which_one : (s : Step) → Contains (take (n + 1) steps) s → Contains (take n steps) s ⊎ (x ≡ s)
    which_one s c = elim (Contains-append_cases (take n steps) (x ∷ []) s (subst (λ z. Contains z s) taken c)) [
      | inl d ↦ inl d
      | inr d ↦ elim (contains_cases s x [] d) [ inl e ↦ inr e | inr m ↦ absurd (contains_none s m) ]
    ]

    pub more_lasts : (lasts : List (Option ℕ)) → x.alias < length lasts → AreLast (take n steps) lasts → AreLast (take (n + 1) steps) (set lasts x.alias (Some x.target))
    more_lasts lasts within are d = elim (cases_eq d x.alias) [
      | inl same ↦
          subst (λ o. MatchOption o (HasNoStep (take (n + 1) steps) d) (HasStep (take (n + 1) steps) d))
          (sym (ap (λ z. get_or (set lasts x.alias (Some x.target)) z None) same ∙ get_or-set_same lasts x.alias (Some x.target) None within))
          (record { step = x; is_step = here; from = sym same; to = refl })
      | inr apart ↦
          subst (λ o. MatchOption o (HasNoStep (take (n + 1) steps) d) (HasStep (take (n + 1) steps) d)) (sym (get_or-set_other lasts x.alias d (Some x.target) None apart))
          (other (get_or lasts d None) apart (are d))
    ]
      where
        other : (o : Option ℕ) → (d ≡ x.alias → ⊥) → MatchOption o (HasNoStep (take n steps) d) (HasStep (take n steps) d) → MatchOption o (HasNoStep (take (n + 1) steps) d) (HasStep (take (n + 1) steps) d)
        other None apart none = λ b h. elim (which_one h.step h.is_step) [
          | inl c ↦ none b (record { step = h.step; is_step = c; from = h.from; to = h.to })
          | inr e ↦ apart (sym h.from ∙ ap (λ (s : Step). s.alias) (sym e))
        ]
        other (Some b) apart h = record { step = h.step; is_step = before h.step h.is_step; from = h.from; to = h.to }

    -- flags of others
    pub more_others : (lasts : List (Option ℕ)) (old new : List Bool) → ((d : ℕ) → IsFlagged new d ↔ (IsFlagged old d ⊎ IsOther lasts d x)) → ((d : ℕ) → IsFlagged old d ↔ HasOther (take n steps) lasts d)
        → (d : ℕ) → IsFlagged new d ↔ HasOther (take (n + 1) steps) lasts d
    more_others lasts old new step are d = (
      λ f. elim ((step d).0 f) [
        | inl g ↦ let (s, c, o) = (are d).0 g in (s, before s c, o)
        | inr o ↦ (x, here, o)
      ],
      λ (s, c, o). (step d).1 (elim (which_one s c) [
        | inl b ↦ inl ((are d).1 (s, b, o))
        | inr e ↦ inr (subst (IsOther lasts d) (sym e) o)
      ]),
    )

  pub no_others : (lasts : List (Option ℕ)) (flags : List Bool) → ((d : ℕ) → get_or flags d false ≡ false) → (d : ℕ) → IsFlagged flags d ↔ HasOther (take 0 steps) lasts d
  no_others lasts flags none d = (λ f. absurd (true≢false (sym f ∙ none d)), λ h. absurd (nobody steps h.0 h.1))

  pub all_lasts : (n : ℕ) (lasts : List (Option ℕ)) → length steps ≤ n → AreLast (take n steps) lasts → AreLast steps lasts
  all_lasts n lasts over are = subst (λ ys. AreLast ys lasts) (take_all n steps over) are

  pub all_others : (n : ℕ) (lasts : List (Option ℕ)) (flags : List Bool) → length steps ≤ n → ((d : ℕ) → IsFlagged flags d ↔ HasOther (take n steps) lasts d) → (d : ℕ) → IsFlagged flags d ↔ HasOther steps lasts d
  all_others n lasts flags over are = subst (λ ys. (d : ℕ) → IsFlagged flags d ↔ HasOther ys lasts d) (take_all n steps over) are

  -- ---- what they tell

  module _ (lasts : List (Option ℕ)) (are : AreLast steps lasts) where
    -- a step that leads elsewhere than the last is one of two
    pub other_two : (d : ℕ) → HasOther steps lasts d → HasTwoSteps steps d
    other_two d (s, c, o) = by (get_or lasts d None) refl (are d)
      where
        by : (r : Option ℕ) → get_or lasts d None ≡ r → MatchOption r (HasNoStep steps d) (HasStep steps d) → HasTwoSteps steps d
        by None e none = absurd (none s.target (record { step = s; is_step = c; from = o.from; to = refl }))
        by (Some b) e last = record {
          first = s.target;
          second = b;
          has_first = record { step = s; is_step = c; from = o.from; to = refl };
          has_second = last;
          differ = λ same. o.other (ap (λ z. get_or lasts z None) o.from ∙ e ∙ ap Some (sym same));
        }

    pub two_other : (d : ℕ) → HasTwoSteps steps d → HasOther steps lasts d
    two_other d t = elim (cases_eq_option (get_or lasts d None) t.first) [
      | inl same ↦ (
        t.has_second.step,
        t.has_second.is_step,
        record {
          from = t.has_second.from;
          other = λ e. t.differ (same_Some t.first t.second (sym same ∙ ap (λ z. get_or lasts z None) (sym t.has_second.from) ∙ e ∙ ap Some t.has_second.to));
        },
      )
      | inr apart ↦ (
        t.has_first.step,
        t.has_first.is_step,
        record {
          from = t.has_first.from;
          other = λ e. apart (ap (λ z. get_or lasts z None) (sym t.has_first.from) ∙ e ∙ ap Some t.has_first.to);
        },
      )
    ]
      where
        cases_eq_option : (o : Option ℕ) (b : ℕ) → (o ≡ Some b) ⊎ (o ≡ Some b → ⊥)
        cases_eq_option None b = inr (λ e. none-some b e)
        cases_eq_option (Some a) b = elim (cases_eq a b) [ inl e ↦ inl (ap Some e) | inr n ↦ inr (λ e. n (same_Some a b e)) ]

-- ---- flags

module _ (flags : List Bool) (lasts : List (Option ℕ)) (s : Step) where
  pub not_other : get_or lasts s.alias None ≡ Some s.target → (d : ℕ) → IsFlagged flags d ↔ (IsFlagged flags d ⊎ IsOther lasts d s)
  not_other last d = (λ f. inl f, λ e. elim e [ inl f ↦ f | inr o ↦ absurd (o.other last) ])

  pub one_other : (get_or lasts s.alias None ≡ Some s.target → ⊥) → s.alias < length flags → (d : ℕ) → IsFlagged (set flags s.alias true) d ↔ (IsFlagged flags d ⊎ IsOther lasts d s)
  one_other other within d = elim (cases_eq d s.alias) [
    | inl same ↦ (
      λ f. inr (record { from = sym same; other = other }),
      λ e. ap (λ z. get_or (set flags s.alias true) z false) same ∙ get_or-set_same flags s.alias true false within,
    )
    | inr apart ↦ (
      λ f. inl (sym (get_or-set_other flags s.alias d true false apart) ∙ f),
      λ e. elim e [ inl f ↦ get_or-set_other flags s.alias d true false apart ∙ f | inr o ↦ absurd (apart (sym o.from)) ],
    )
  ]

-- an entry without a last step is flagged
pub open_flagged : (lasts : List (Option ℕ)) (d : ℕ) → d < length lasts → IsFlagged (map (λ (o : Option ℕ). not (is_some o)) lasts) d ↔ (get_or lasts d None ≡ None)
open_flagged lasts d within = (λ f. there lasts d within f, λ e. back lasts d within e)
  where
    none_is : (o : Option ℕ) → not (is_some o) ≡ true → o ≡ None
    none_is None e = refl
    none_is (Some x) e = absurd (let f : false ≡ true = e in cc)

    is_none : (o : Option ℕ) → o ≡ None → not (is_some o) ≡ true
    is_none o e = ap (λ z. not (is_some z)) e

    there : (ls : List (Option ℕ)) (c : ℕ) → c < length ls → get_or (map (λ (o : Option ℕ). not (is_some o)) ls) c false ≡ true → get_or ls c None ≡ None
    there [] c l f = absurd (omega (arith, l))
    there (o ∷ ls) zero l f = none_is o f
    there (o ∷ ls) (suc c) l f = there ls c (omega (arith, l)) f

    back : (ls : List (Option ℕ)) (c : ℕ) → c < length ls → get_or ls c None ≡ None → get_or (map (λ (o : Option ℕ). not (is_some o)) ls) c false ≡ true
    back [] c l e = absurd (omega (arith, l))
    back (o ∷ ls) zero l e = is_none o e
    back (o ∷ ls) (suc c) l e = back ls c (omega (arith, l)) e
