-- What is decided: it holds or it does not. Whether two values are equal is decided for numbers, texts and lists, and for each
-- enum whose variants have numbers.
use Rattle.std.specs.Prelude.{◌≡◌, ◌⊎◌, ℕ, Bool, true, false, List, [], ◌∷◌}
use Rattle.std.proofs.Common.{refl, sym, ◌∙◌, ap, inl, inr, arith}
use Rattle.std.proofs.lemmas.Bool.{cases_lt}
use Rattle.cil_base.specs.Places.{cons_head, cons_tail, never_cons}

-- it holds or it does not
abbrev pub Decided : Type 0 → Type 0
Decided A = A ⊎ (A → ⊥)

pub decided_both : {A B : Type 0} → Decided A → Decided B → Decided (A × B)
decided_both (inl a) (inl b) = inl (a, b)
decided_both (inl a) (inr none) = inr (λ h. none h.1)
decided_both (inr none) d = inr (λ h. none h.0)

pub decided_same : {A B : Type 0} → (A → B) → (B → A) → Decided A → Decided B
decided_same there back (inl a) = inl (there a)
decided_same there back (inr none) = inr (λ b. none (back b))

pub decided_not : {A : Type 0} → Decided A → Decided (A → ⊥)
decided_not (inl a) = inr (λ none. none a)
decided_not (inr none) = inl none

-- ---- equality

pub same_bool : (b c : Bool) → Decided (b ≡ c)
same_bool true true = inl refl
same_bool true false = inr (λ e. let f : true ≡ false = e in cc)
same_bool false true = inr (λ e. let f : false ≡ true = e in cc)
same_bool false false = inl refl

pub same_number : (m n : ℕ) → Decided (m ≡ n)
same_number m n = elim (cases_lt m n) [
  | inl less ↦ inr (λ e. omega (arith, e, less))
  | inr ge ↦ elim (cases_lt n m) [
    | inl more ↦ inr (λ e. omega (arith, e, more))
    | inr le ↦ inl (omega (arith, ge, le))
  ]
]

module _ {X : Type 0} (same : (x y : X) → Decided (x ≡ y)) where
  pub same_list : (xs ys : List X) → Decided (xs ≡ ys)
  same_list [] [] = inl refl
  same_list [] (y ∷ ys) = inr (never_cons y ys)
  same_list (x ∷ xs) [] = inr (λ e. never_cons x xs (sym e))
  same_list (x ∷ xs) (y ∷ ys) = elim (same x y) [
    | inr apart ↦ inr (λ e. apart (cons_head x y xs ys e))
    | inl h ↦ elim (same_list xs ys) [
      | inl t ↦ inl (λ i. h i ∷ t i)
      | inr apart ↦ inr (λ e. apart (cons_tail x y xs ys e))
    ]
  ]

pub same_text : (a b : List ℕ) → Decided (a ≡ b)
same_text = same_list same_number

-- an enum, by a number for each variant
pub by_number : {X : Type 0} (number : X → ℕ) (back : ℕ → X) → ((x : X) → back (number x) ≡ x) → (x y : X) → Decided (x ≡ y)
by_number number back is x y = elim (same_number (number x) (number y)) [
  | inl e ↦ inl (sym (is x) ∙ ap back e ∙ is y)
  | inr apart ↦ inr (λ e. apart (ap number e))
]
