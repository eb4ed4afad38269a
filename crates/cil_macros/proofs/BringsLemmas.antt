-- Marks for what opened a statement that may not be in a branch: set from the last statement on, each once.
use Rattle.std.proofs.Common.{◌≡◌, ◌⊎◌, ℕ, ◌+◌, ◌<◌, ◌≤◌, Bool, true, false, ◌||◌, List, [], length, get_or, replicate, set, refl, sym, ◌∙◌, ap, subst, inl, inr, arith, get_or-set_other, get_or-set_same}
use Rattle.std.specs.Prelude.{Some, slice_get}
use Rattle.std.proofs.lemmas.Bool.{cases_lt}
use Rattle.std.proofs.lemmas.List.{get_or-replicate, get_or_past, length-replicate, length-set}
use Rattle.cil_base.specs.Places.{in_range, none_some, some_same}
use Rattle.cil_syntax.specs.Written.{Written}
use Rattle.cil_macros.specs.declared.entry.Called.{Called}
use Rattle.cil_macros.specs.Brings.{AreMarked, AreMarkedFrom, IsStepMarked, LeadsFrom, LeadsToOther, at_once, further, is_marked, is_other}

same_or_not : (k n : ℕ) → (k ≡ n) ⊎ (k ≡ n → ⊥)
same_or_not k n = grind arith

same_or_later : (a b : ℕ) → b ≤ a → (a ≡ b) ⊎ (b < a)
same_or_later a b h = elim (cases_lt b a) [ inl less ↦ inr less | inr ge ↦ inl (omega (arith, h, ge)) ]

never : true ≡ false → ⊥
never e = cc

module _ (ws : List Written) where
  -- ---- one step

  module _ (c : Called) (place : ℕ) (old new : List Bool) where
    pub step_marked : c.opener < length old → new ≡ set old c.opener true → (is_other ws c.statement ≡ true) ⊎ (is_marked old place ≡ true) → IsStepMarked ws c place old new
    step_marked within e leads = record {
      many = ap length e ∙ length-set old c.opener true;
      so = λ k. (
        (λ m. elim (same_or_not k c.opener) [
          | inl same ↦ inr (sym same, leads)
          | inr other ↦ inl (sym (ap (λ xs. get_or xs k false) e ∙ get_or-set_other old c.opener k true false other) ∙ m)
        ]),
        (λ s. elim (same_or_not k c.opener) [
          | inl same ↦ ap (λ xs. get_or xs k false) e ∙ ap (λ n. get_or (set old c.opener true) n false) same ∙ get_or-set_same old c.opener true false within
          | inr other ↦ elim s [
            | inl m ↦ ap (λ xs. get_or xs k false) e ∙ get_or-set_other old c.opener k true false other ∙ m
            | inr x ↦ absurd (other (sym x.0))
          ]
        ]),
      );
    }

    pub step_passed : new ≡ old → is_other ws c.statement ≡ false → is_marked old place ≡ false → IsStepMarked ws c place old new
    step_passed e plain unmarked = record {
      many = ap length e;
      so = λ k. (
        (λ m. inl (ap (λ xs. get_or xs k false) (sym e) ∙ m)),
        (λ s. elim s [
          | inl m ↦ ap (λ xs. get_or xs k false) e ∙ m
          | inr x ↦ elim x.1 [ inl o ↦ absurd (never (sym o ∙ plain)) | inr m ↦ absurd (never (sym m ∙ unmarked)) ]
        ]),
      );
    }

    or_true : (a b : Bool) → (a || b) ≡ true → (b ≡ true) ⊎ (a ≡ true)
    or_true true b e = inr refl
    or_true false b e = inl e

    or_false : (a b : Bool) → (a || b) ≡ false → (a ≡ false) × (b ≡ false)
    or_false true b e = absurd (never e)
    or_false false b e = (refl, e)

    pub step_so : (b : Bool) → b ≡ (is_marked old place || is_other ws c.statement) → b ≡ true → c.opener < length old → new ≡ set old c.opener true → IsStepMarked ws c place old new
    step_so b so e within is = step_marked within is (or_true (is_marked old place) (is_other ws c.statement) (sym so ∙ e))

    pub no_step_so : (b : Bool) → b ≡ (is_marked old place || is_other ws c.statement) → b ≡ false → new ≡ old → IsStepMarked ws c place old new
    no_step_so b so e is = let f = or_false (is_marked old place) (is_other ws c.statement) (sym so ∙ e) in step_passed is f.1 f.0

  -- ---- all steps

  module _ (cs : List Called) (standing : ℕ) (before : (j : ℕ) (c : Called) → slice_get cs j ≡ Some c → c.opener < standing + j) where
    -- what leads to such a statement has a first step
    first_step : (k : ℕ) → LeadsToOther ws cs standing k → LeadsFrom ws cs standing 0 k
    first_step k (at_once j c n e o b) = record { step = j; called = c; is = e; opened = o; from = omega arith; leads = inl b }
    first_step k (further j c n e o r) = record { step = j; called = c; is = e; opened = o; from = omega arith; leads = inr r }

    leads_on : (rank k : ℕ) → LeadsFrom ws cs standing rank k → LeadsToOther ws cs standing k
    leads_on rank k x = elim x.leads [
      | inl b ↦ at_once x.step x.called k x.is x.opened b
      | inr r ↦ further x.step x.called k x.is x.opened r
    ]

    -- the first step leads from a place to a later one
    later_step : (rank : ℕ) → LeadsToOther ws cs standing (standing + rank) → LeadsFrom ws cs standing (rank + 1) (standing + rank)
    later_step rank r =
        let x = first_step (standing + rank) r in
        let less = before x.step x.called x.is in
        let opened = x.opened in
        record { step = x.step; called = x.called; is = x.is; opened = x.opened; from = omega (arith, less, opened); leads = x.leads }

    pub one_marked : (rank : ℕ) (c : Called) (old new : List Bool) → slice_get cs rank ≡ Some c → AreMarkedFrom ws cs standing (rank + 1) old
        → IsStepMarked ws c (standing + rank) old new → AreMarkedFrom ws cs standing rank new
    one_marked rank c old new e so step = record {
      many = step.many ∙ so.many;
      so = λ k. (to k, back k);
    }
      where
        wider : (k : ℕ) → LeadsFrom ws cs standing (rank + 1) k → LeadsFrom ws cs standing rank k
        wider k x = let from = x.from in record { step = x.step; called = x.called; is = x.is; opened = x.opened; from = omega (arith, from); leads = x.leads }

        here : (k : ℕ) → c.opener ≡ k → (is_other ws c.statement ≡ true) ⊎ (is_marked old (standing + rank) ≡ true) → LeadsFrom ws cs standing rank k
        here k o (inl b) = record { step = rank; called = c; is = e; opened = o; from = omega arith; leads = inl b }
        here k o (inr m) =
            record { step = rank; called = c; is = e; opened = o; from = omega arith; leads = inr (leads_on (rank + 1) (standing + rank) ((so.so (standing + rank)).0 m)) }

        to : (k : ℕ) → is_marked new k ≡ true → LeadsFrom ws cs standing rank k
        to k m = elim ((step.so k).0 m) [ inl o ↦ wider k ((so.so k).0 o) | inr x ↦ here k x.0 x.1 ]

        by_place : (k : ℕ) (x : LeadsFrom ws cs standing rank k) → (x.step ≡ rank) ⊎ (rank < x.step) → is_marked new k ≡ true
        by_place k x (inl at) =
            let same : x.called ≡ c = some_same x.called c (sym x.is ∙ ap (slice_get cs) at ∙ e) in
            let o : c.opener ≡ k = ap (λ (d : Called). d.opener) (sym same) ∙ x.opened in
            (step.so k).1 (inr (
              o,
              elim x.leads [
                | inl b ↦ inl (ap (λ (d : Called). is_other ws d.statement) (sym same) ∙ b)
                | inr r ↦ inr ((so.so (standing + rank)).1 (later_step rank (subst (λ n. LeadsToOther ws cs standing (standing + n)) at r)))
              ],
            ))
        by_place k x (inr later) =
            (step.so k).1 (inl ((so.so k).1 (record { step = x.step; called = x.called; is = x.is; opened = x.opened; from = omega (arith, later); leads = x.leads })))

        back : (k : ℕ) → LeadsFrom ws cs standing rank k → is_marked new k ≡ true
        back k x = by_place k x (same_or_later x.step rank x.from)

    pub all_marked : (marks : List Bool) → AreMarkedFrom ws cs standing 0 marks → AreMarked ws cs standing marks
    all_marked marks so k = (
      (λ m. leads_on 0 k ((so.so k).0 m)),
      (λ r. (so.so k).1 (first_step k r)),
    )

  pub unmarked_at : (n k : ℕ) → get_or (replicate n false) k false ≡ false
  unmarked_at n k = elim (cases_lt k n) [
    | inl h ↦ get_or-replicate n k false false h
    | inr h ↦ get_or_past (replicate n false) k false (let l = length-replicate n false in omega (arith, l, h))
  ]

  -- at first nothing is marked
  pub none_marked : (cs : List Called) (standing rank n : ℕ) (marks : List Bool) → marks ≡ replicate n false → n ≡ standing + length cs → length cs ≤ rank
      → AreMarkedFrom ws cs standing rank marks
  none_marked cs standing rank n marks e many over = record {
    many = ap length e ∙ length-replicate n false ∙ many;
    so = λ k. (
      (λ m. absurd (never (sym m ∙ ap (λ xs. get_or xs k false) e ∙ unmarked_at n k))),
      (λ x. let h = in_range cs x.step x.called x.is in let from = x.from in absurd (omega (arith, h, from, over))),
    );
  }

  -- where nothing is brought nothing is marked
  pub nothing_marked : (cs : List Called) (standing : ℕ) (marks : List Bool) → cs ≡ [] → marks ≡ [] → AreMarked ws cs standing marks
  nothing_marked cs standing marks e f k = (
    (λ m. absurd (never (sym m ∙ ap (λ xs. get_or xs k false) f))),
    (λ r. absurd (none k r)),
  )
    where
      none : (n : ℕ) → LeadsToOther ws cs standing n → ⊥
      none n (at_once j c m g o b) = none_some c (ap (λ xs. slice_get xs j) (sym e) ∙ g)
      none n (further j c m g o r) = none_some c (ap (λ xs. slice_get xs j) (sym e) ∙ g)
