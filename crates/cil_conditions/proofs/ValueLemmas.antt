-- The values of conditions.
use Rattle.std.specs.Prelude.{◌↔◌, IsTrue, nat_eq, not}
use Rattle.std.proofs.lemmas.Bool.{eq-eqb, eqb-true}
use Rattle.std.proofs.lemmas.List.{drop_all, length-drop}
use Rattle.cil_base.specs.Places.{drop_at}
use Rattle.std.proofs.Common.{◌≡◌, ℕ, zero, suc, ◌+◌, ◌<◌, ◌≤◌, Bool, List, [], ◌∷◌, length, drop, get_or, refl, sym, ◌∙◌, ap, subst, arith}
use Rattle.std.proofs.Math.Seq.{drop-cons}
use Rattle.std.proofs.lemmas.List.{get_or_default}
use Rattle.cil_conditions.specs.declared.token.Token.{Token}
use Rattle.cil_conditions.specs.declared.token.Token.TheVariants as tokens
use Rattle.cil_conditions.specs.Truth.{AreOperands, IsExpression, wanted_behind, of_one, of_two, truth_of, values, with_token}

module _ (on : ℕ → Bool) where
  -- past the end there is no value
  pub within_tokens : (ts : List Token) (at : ℕ) → 0 < length (values on (drop at ts)) → at < length ts
  unfolding values
  within_tokens [] zero some = some
  within_tokens [] (suc at) some = absurd (omega (arith, some))
  within_tokens (t ∷ ts) zero some = omega arith
  within_tokens (t ∷ ts) (suc at) some = let h = within_tokens ts at some in omega (arith, h)

  pub begins : (ts : List Token) (at : ℕ) (t : Token) → at < length ts → t ≡ get_or ts at t → values on (drop at ts) ≡ with_token on t (values on (drop (at + 1) ts))
  unfolding values
  begins ts at t within is =
      let first : drop at ts ≡ t ∷ drop (suc at) ts = drop-cons ts at t within ∙ ap (λ (z : Token). z ∷ drop (suc at) ts) (sym is) in
      let next : suc at ≡ at + 1 = omega arith in
      ap (values on) first ∙ ap (λ n. with_token on t (values on (drop n ts))) next

  -- every other token is an operator of two operands
  is_two : (op : Token) → ((n : ℕ) → op ≡ tokens.Boolean n → ⊥) → (op ≡ tokens.Not → ⊥) → (vs : List Bool) → with_token on op vs ≡ of_two (truth_of op) vs
  is_two (tokens.Boolean n) no_boolean no_not vs = absurd (no_boolean n refl)
  is_two tokens.Not no_boolean no_not vs = absurd (no_not refl)
  is_two tokens.And no_boolean no_not vs = refl
  is_two tokens.Or no_boolean no_not vs = refl
  is_two tokens.Xor no_boolean no_not vs = refl
  is_two tokens.Equal no_boolean no_not vs = refl
  is_two tokens.Unequal no_boolean no_not vs = refl

  module _ (ts : List Token) (at : ℕ) (some : 0 < length (values on (drop at ts))) (d t : Token) (is : get_or ts at d ≡ t) where
    first_is : values on (drop at ts) ≡ with_token on t (values on (drop (at + 1) ts))
    first_is = let within = within_tokens ts at some in begins ts at t within (sym is ∙ get_or_default ts at d t within)

    pub boolean_value : (n : ℕ) → t ≡ tokens.Boolean n → values on (drop at ts) ≡ on n ∷ values on (drop (at + 1) ts)
    boolean_value n e = first_is ∙ ap (λ z. with_token on z (values on (drop (at + 1) ts))) e

    not_is : t ≡ tokens.Not → values on (drop at ts) ≡ of_one not (values on (drop (at + 1) ts))
    not_is e = first_is ∙ ap (λ z. with_token on z (values on (drop (at + 1) ts))) e

    of_some : (vs : List Bool) → 0 < length (of_one not vs) → 0 < length vs
    of_some [] l = l
    of_some (a ∷ rest) l = omega arith

    pub not_inner : t ≡ tokens.Not → 0 < length (values on (drop (at + 1) ts))
    not_inner e = of_some _ (subst (λ vs. 0 < length vs) (not_is e) some)

    pub not_value : t ≡ tokens.Not → (a : Bool) (rest : List Bool) → values on (drop (at + 1) ts) ≡ a ∷ rest → values on (drop at ts) ≡ not a ∷ rest
    not_value e a rest inner = not_is e ∙ ap (of_one not) inner

    module _ (no_boolean : (n : ℕ) → t ≡ tokens.Boolean n → ⊥) (no_not : t ≡ tokens.Not → ⊥) where
      two_is : values on (drop at ts) ≡ of_two (truth_of t) (values on (drop (at + 1) ts))
      two_is = first_is ∙ is_two t no_boolean no_not _

      some_two : (vs : List Bool) → 0 < length (of_two (truth_of t) vs) → 0 < length vs
      some_two [] l = l
      some_two (a ∷ rest) l = omega arith

      more_two : (vs rest : List Bool) (a : Bool) → 0 < length (of_two (truth_of t) vs) → vs ≡ a ∷ rest → 0 < length rest
      more_two vs [] a l e = subst (λ ws. 0 < length (of_two (truth_of t) ws)) e l
      more_two vs (b ∷ rest) a l e = omega arith

      pub two_first : 0 < length (values on (drop (at + 1) ts))
      two_first = some_two _ (subst (λ vs. 0 < length vs) two_is some)

      pub two_second : (a : Bool) (rest : List Bool) → values on (drop (at + 1) ts) ≡ a ∷ rest → 0 < length rest
      two_second a rest e = more_two _ rest a (subst (λ vs. 0 < length vs) two_is some) e

      pub two_value : (a b : Bool) (rest more : List Bool) → values on (drop (at + 1) ts) ≡ a ∷ rest → rest ≡ b ∷ more → values on (drop at ts) ≡ truth_of t a b ∷ more
      two_value a b rest more e f = two_is ∙ ap (of_two (truth_of t)) (e ∙ ap (λ vs. a ∷ vs) f)

  -- so many expressions have as many values
  of_one_long : (f : Bool → Bool) (vs : List Bool) → length (of_one f vs) ≡ length vs
  of_one_long f [] = refl
  of_one_long f (a ∷ vs) = refl

  of_two_long : (f : Bool → Bool → Bool) (vs : List Bool) (n : ℕ) → length vs ≡ suc (suc n) → length (of_two f vs) ≡ suc n
  of_two_long f [] n e = absurd (omega (arith, e))
  of_two_long f (a ∷ []) n e = absurd (omega (arith, e))
  of_two_long f (a ∷ b ∷ vs) n e = omega (arith, e)

  one_more : (t : Token) (n : ℕ) (vs : List Bool) → length vs ≡ wanted_behind t n → length (with_token on t vs) ≡ suc n
  one_more (tokens.Boolean m) n vs e = ap (λ (k : ℕ). suc k) e
  one_more tokens.Not n vs e = of_one_long not vs ∙ e
  one_more tokens.And n vs e = of_two_long (truth_of tokens.And) vs n e
  one_more tokens.Or n vs e = of_two_long (truth_of tokens.Or) vs n e
  one_more tokens.Xor n vs e = of_two_long (truth_of tokens.Xor) vs n e
  one_more tokens.Equal n vs e = of_two_long (truth_of tokens.Equal) vs n e
  one_more tokens.Unequal n vs e = of_two_long (truth_of tokens.Unequal) vs n e

  pub as_many : (n : ℕ) (ts : List Token) → AreOperands n ts → length (values on ts) ≡ n
  unfolding values AreOperands
  as_many zero [] are = refl
  as_many zero (t ∷ ts) are = absurd are
  as_many (suc n) [] are = absurd are
  as_many (suc n) (t ∷ ts) are = one_more t n (values on ts) (as_many (wanted_behind t n) ts are)

-- ---- the test

none_wanted : (ts : List Token) → 0 < length ts → AreOperands 0 ts → ⊥
unfolding AreOperands
none_wanted [] some are = absurd (omega (arith, some))
none_wanted (t ∷ ts) some are = are

all_wanted : (n : ℕ) → AreOperands n [] → n ≡ 0
unfolding AreOperands
all_wanted zero are = refl
all_wanted (suc n) are = absurd are

module _ (ts : List Token) (i : ℕ) where
  -- a token more
  pub token_read : (w n m : ℕ) (t d : Token) → w ≡ suc n → i < length ts → t ≡ get_or ts i d → IsExpression ts ↔ AreOperands w (drop i ts) → m ≡ wanted_behind t n
      → IsExpression ts ↔ AreOperands m (drop (i + 1) ts)
  unfolding AreOperands
  token_read w n m t d some within is same next =
      let first : drop i ts ≡ t ∷ drop (i + 1) ts = drop_at ts i t d within is in (
        (λ are. subst (λ k. AreOperands k (drop (i + 1) ts)) (sym next) (subst (AreOperands (suc n)) first (subst (λ k. AreOperands k (drop i ts)) some (same.0 are)))),
        (λ are. same.1 (subst (λ k. AreOperands k (drop i ts)) (sym some) (subst (AreOperands (suc n)) (sym first) (subst (λ k. AreOperands k (drop (i + 1) ts)) next are)))),
      )

  -- a token that nothing wants
  pub too_many : (n : ℕ) → n ≡ 0 → i < length ts → IsExpression ts ↔ AreOperands n (drop i ts) → IsExpression ts → ⊥
  too_many n none within same is =
      none_wanted (drop i ts) (let l = length-drop i ts in omega (arith, l, within)) (subst (λ k. AreOperands k (drop i ts)) none (same.0 is))

  -- all tokens are read
  pub all_read : (n : ℕ) → length ts ≤ i → IsExpression ts ↔ AreOperands n (drop i ts) → IsTrue (nat_eq n 0) ↔ IsExpression ts
  unfolding AreOperands
  all_read n over same = (
    (λ e. same.1 (subst (λ k. AreOperands k (drop i ts)) (sym (eqb-true n 0 e)) (subst (AreOperands 0) (sym (drop_all i ts over)) tt))),
    (λ is. eq-eqb n 0 (all_wanted n (subst (AreOperands n) (drop_all i ts over) (same.0 is)))),
  )
