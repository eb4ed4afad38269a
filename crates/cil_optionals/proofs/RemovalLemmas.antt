-- What taking optionals out one by one keeps.
use Rattle.std.specs.Prelude.{Option, Some, None, slice_get, not, map, take, set, length, ◌==◌, ◌<◌, ◌⊎◌, cond, MatchOption}
use Rattle.std.proofs.Common.{◌≡◌, ℕ, zero, suc, ◌+◌, Bool, true, false, ◌&&◌, ◌||◌, ◌++◌, List, [], ◌∷◌, refl, sym, subst, ap, ◌∙◌, arith, inl, inr}
use Rattle.std.proofs.lemmas.Bool.Decides.{nat_tests}
use Rattle.std.proofs.lemmas.Option.{slice_get_within}
use Rattle.cil_base.specs.Among.{among}
use Rattle.cil_base.specs.Counts.{count_cons}
use Rattle.cil_names.specs.declared.entry.Entry.{Entry}
use Rattle.cil_names.specs.Entries.{is_in}
use Rattle.cil_optionals.specs.declared.reason.Reason.{Reason}
use Rattle.cil_optionals.specs.Certificate.{left_out}
use Rattle.cil_optionals.specs.Parts.{IsShown, Part, is_optional_part, is_step, is_well, left_after, names_one}
use Rattle.cil_optionals.specs.Removals.{IsPassed, IsReasonNow, IsTaken, IsTurned, IsWellAt, count_set}
use Rattle.cil_optionals.proofs.BoolLemmas.{and_left}
use Rattle.cil_optionals.proofs.ShownLemmas.{pushed}

-- ---- lists

-- what is in a list with one item behind it
pub last_cases : {X : Type 0} (rs : List X) (r : X) (k : ℕ) (q : X) → slice_get (rs ++ r ∷ []) k ≡ Some q
    → ((slice_get rs k ≡ Some q) × (take k (rs ++ r ∷ []) ≡ take k rs)) ⊎ ((r ≡ q) × (take k (rs ++ r ∷ []) ≡ rs))
last_cases [] r zero q e = inr (let g : Some r ≡ Some q = e in cc, refl)
last_cases [] r (suc k) q e = absurd (let g : None ≡ Some q = e in cc)
last_cases (x ∷ rs) r zero q e = inl (e, refl)
last_cases (x ∷ rs) r (suc k) q e = elim (last_cases rs r k q e) [
  | inl h ↦ inl (h.0, ap (λ l. x ∷ l) h.1)
  | inr h ↦ inr (h.0, ap (λ l. x ∷ l) h.1)
]

flags_are : (ps : List Part) (o : ℕ) → is_in (map (λ (p : Part). p.optional) ps) o ≡ is_optional_part ps o
flags_are [] o = refl
flags_are (p ∷ ps) zero = refl
flags_are (p ∷ ps) (suc o) = flags_are ps o

no_and : (b : Bool) → (b && false) ≡ false
no_and true = refl
no_and false = refl

and_all : (b : Bool) → b ≡ (b && true)
and_all true = refl
and_all false = refl

zero_differs : (o : ℕ) → (0 == suc o) ≡ false
zero_differs o = grind (arith, nat_tests)

differs_zero : (o : ℕ) → (suc o == 0) ≡ false
differs_zero o = grind (arith, nat_tests)

same_next : (q o : ℕ) → (suc q == suc o) ≡ (q == o)
same_next q o = grind (arith, nat_tests)

-- a flag is taken back
pub taken_back : (flags : List Bool) (q o : ℕ) → is_in flags q ≡ true → is_in (set flags q false) o ≡ (is_in flags o && not (q == o))
taken_back [] q o h = absurd (let g : false ≡ true = h in cc)
taken_back (b ∷ bs) zero zero h = sym (no_and b)
taken_back (b ∷ bs) zero (suc o) h = and_all (is_in bs o) ∙ ap (λ t. is_in bs o && not t) (sym (zero_differs o))
taken_back (b ∷ bs) (suc q) zero h = and_all b ∙ ap (λ t. b && not t) (sym (differs_zero q))
taken_back (b ∷ bs) (suc q) (suc o) h = taken_back bs q o h ∙ ap (λ t. is_in bs o && not t) (sym (same_next q o))

pub in_within : (flags : List Bool) (q : ℕ) → is_in flags q ≡ true → q < length flags
in_within [] q h = absurd (let g : false ≡ true = h in cc)
in_within (b ∷ bs) zero h = omega arith
in_within (b ∷ bs) (suc q) h = let l = in_within bs q h in omega (arith, l)

count_more : (b : Bool) (bs : List Bool) → count_set (b ∷ bs) ≡ cond b 1 0 + count_set bs
unfolding count_set
count_more b bs = count_cons (λ (flag : Bool). flag) b bs

pub one_fewer : (flags : List Bool) (q : ℕ) → is_in flags q ≡ true → count_set (set flags q false) < count_set flags
one_fewer [] q h = absurd (let g : false ≡ true = h in cc)
one_fewer (b ∷ bs) zero h = at b h _ _ (count_more false bs) (count_more b bs) where
  at : (b : Bool) → b ≡ true → (s t : ℕ) → s ≡ cond false 1 0 + count_set bs → t ≡ cond b 1 0 + count_set bs → s < t
  at true h s t e f = omega (arith, e, f)
  at false h s t e f = absurd (let g : false ≡ true = h in cc)
one_fewer (b ∷ bs) (suc q) h =
    let l = one_fewer bs q h in
    let e = count_more b (set bs q false) in
    let f = count_more b bs in omega (arith, l, e, f)

and_twice : (a x y : Bool) → ((a && not x) && not y) ≡ (a && not (y || x))
and_twice true true true = refl
and_twice true true false = refl
and_twice true false true = refl
and_twice true false false = refl
and_twice false x y = refl

-- ---- what is kept

module _ (ps : List Part) (es : List Entry) where
  pub taken_none : (flags : List Bool) → flags ≡ map (λ (p : Part). p.optional) ps → IsTaken ps es flags []
  taken_none flags e = record {
    left = λ o. ap (λ l. is_in l o) e ∙ flags_are ps o ∙ and_all (is_optional_part ps o);
    steps = λ k r h. absurd (let g : None ≡ Some r = h in cc);
  }

  abbrev StepAfter : List Reason → Reason → Type 0
  StepAfter rs r = is_step ps (left_after ps rs) (names_one es (left_after ps rs)) r ≡ true

  now_after : (flags : List Bool) (rs : List Reason) (r : Reason) → IsTaken ps es flags rs → IsReasonNow ps es flags r → StepAfter rs r
  now_after flags rs r taken now = subst (λ s. is_step ps s (names_one es s) r ≡ true) (λ i o. taken.left o i) now

  pub reason_left : (flags : List Bool) (r : Reason) → IsReasonNow ps es flags r → is_in flags (left_out r) ≡ true
  reason_left flags r now = and_left _ _ now

  pub taken_one : (flags : List Bool) (rs : List Reason) (r : Reason) → IsTaken ps es flags rs → IsReasonNow ps es flags r
      → IsTaken ps es (set flags (left_out r) false) (rs ++ r ∷ [])
  taken_one flags rs r taken now = record {
    left = λ o.
        taken_back flags (left_out r) o (reason_left flags r now) ∙ ap (λ b. b && not (left_out r == o)) (taken.left o)
        ∙ and_twice (is_optional_part ps o) (among (map left_out rs) o) (left_out r == o) ∙ ap (λ b. is_optional_part ps o && not b) (sym (pushed rs r o));
    steps = λ k q e. elim (last_cases rs r k q e) [
      | inl h ↦ subst (λ l. StepAfter l q) (sym h.1) (taken.steps k q h.0)
      | inr h ↦ subst (λ l. StepAfter l q) (sym h.1) (subst (StepAfter rs) h.0 (now_after flags rs r taken now))
    ];
  }

  pub shown_by : (flags : List Bool) (rs : List Reason) → IsTaken ps es flags rs → ((at : ℕ) → at < length ps → IsWellAt ps es flags at) → IsShown ps es (is_in flags) rs
  shown_by flags rs taken well = record {
    steps = taken.steps;
    left = taken.left;
    well = λ at p e. subst (λ s. is_well s (names_one es s) at p ≡ true) (λ i o. taken.left o i) (well at (slice_get_within ps at p e) p e);
  }

  -- ---- a turn

  pub turned_none : (at : ℕ) (flags slice : List Bool) (r : Option Reason) → slice ≡ flags → MatchOption r (IsWellAt ps es slice at) (IsReasonNow ps es slice)
      → r ≡ None → IsTurned ps es at flags flags false
  turned_none at flags slice r same judged e = record {
    fewer = λ g. absurd (let h : false ≡ true = g in cc);
    same = λ g. refl;
    well = λ g. subst (λ z. IsWellAt ps es z at) same (subst (λ z. MatchOption z (IsWellAt ps es slice at) (IsReasonNow ps es slice)) e judged);
  }

  pub reason_now : (at : ℕ) (flags slice : List Bool) (r : Option Reason) (reason : Reason) → slice ≡ flags
      → MatchOption r (IsWellAt ps es slice at) (IsReasonNow ps es slice) → r ≡ Some reason → IsReasonNow ps es flags reason
  reason_now at flags slice r reason same judged e =
      subst (λ z. IsReasonNow ps es z reason) same (subst (λ z. MatchOption z (IsWellAt ps es slice at) (IsReasonNow ps es slice)) e judged)

  pub turned_some : (at : ℕ) (flags : List Bool) (reason : Reason) → IsReasonNow ps es flags reason → IsTurned ps es at flags (set flags (left_out reason) false) true
  turned_some at flags reason now = record {
    fewer = λ g. one_fewer flags (left_out reason) (reason_left flags reason now);
    same = λ g. absurd (let h : true ≡ false = g in cc);
    well = λ g. absurd (let h : true ≡ false = g in cc);
  }

  -- ---- a pass

  pub passed_none : (flags : List Bool) → IsPassed ps es 0 flags flags false
  passed_none flags = record {
    fewer = λ e. absurd (let g : false ≡ true = e in cc);
    same = λ e. refl;
    well = λ e at l. absurd (omega (arith, l));
  }

  pub passed_more : (n : ℕ) (a b c : List Bool) (taken out : Bool) → IsPassed ps es n a b taken → IsTurned ps es n b c out → IsPassed ps es (n + 1) a c (taken || out)
  passed_more n a b c true true passed turned =
      let l = passed.fewer refl in
      let m = turned.fewer refl in record {
        fewer = λ e. omega (arith, l, m);
        same = λ e. absurd (let g : true ≡ false = e in cc);
        well = λ e at l. absurd (let g : true ≡ false = e in cc);
      }
  passed_more n a b c true false passed turned =
      let l = passed.fewer refl in record {
        fewer = λ e. subst (λ z. count_set z < count_set a) (sym (turned.same refl)) l;
        same = λ e. absurd (let g : true ≡ false = e in cc);
        well = λ e at l. absurd (let g : true ≡ false = e in cc);
      }
  passed_more n a b c false true passed turned =
      let m = turned.fewer refl in record {
        fewer = λ e. subst (λ z. count_set c < count_set z) (passed.same refl) m;
        same = λ e. absurd (let g : true ≡ false = e in cc);
        well = λ e at l. absurd (let g : true ≡ false = e in cc);
      }
  passed_more n a b c false false passed turned = record {
    fewer = λ e. absurd (let g : false ≡ true = e in cc);
    same = λ e. turned.same refl ∙ passed.same refl;
    well = λ e at l. elim (below at n l) [
      | inl m ↦ subst (λ z. IsWellAt ps es z at) (sym (turned.same refl)) (passed.well refl at m)
      | inr same ↦ subst (IsWellAt ps es c) same (turned.well refl)
    ];
  }
    where
      below : (at n : ℕ) → at < n + 1 → (at < n) ⊎ (n ≡ at)
      below at n l = grind arith
