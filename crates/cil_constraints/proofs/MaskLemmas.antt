-- What constraints leave of a mask, with one constraint more.
use Rattle.std.specs.Prelude.{◌↔◌, ◌≢◌, IsBitSet, bit_and}
use Rattle.std.specs.Int.{bit_at, bit_not}
use Rattle.std.proofs.Common.{◌≡◌, ℕ, ◌+◌, ◌<◌, ◌^◌, Bool, true, false, List, [], ◌∷◌, ◌++◌, length, get_or, take, refl, sym, ◌∙◌, ap, subst, inl, inr, arith, w32}
use Rattle.std.proofs.lemmas.Bool.{cases_lt}
use Rattle.std.proofs.lemmas.List.{take_more}
use Rattle.std.proofs.lemmas.List.Elements.{Contains-append_left, Contains-append_right, Contains-append_cases}
use Rattle.std.proofs.lemmas.Nat.Bits.{bit_at_and, bit_at-lt, bit_at-zero, bit_at_above, bit_at_not}
use Rattle.cil_base.specs.Lists.{contains_cases, contains_here, contains_none}
use Rattle.cil_settle.proofs.BitLemmas.{set_is_one}
use Rattle.cil_constraints.specs.declared.expr.Context.{Context}
use Rattle.cil_constraints.specs.declared.mask.Constraint.{Constraint}
use Rattle.cil_constraints.specs.Permitted.{AllTrue, IsTrueAt, TakesAway}
use Rattle.cil_constraints.specs.Truth.{is_true}

-- two masks that share a bit have something in common
shared : (a b bit : ℕ) → IsBitSet a bit → IsBitSet b bit → bit_and a b ≢ 0
shared a b bit s t none =
    let x = (set_is_one a bit).0 s in
    let y = (set_is_one b bit).0 t in
    let both = bit_at_and a b bit in
    let zero = ap (λ n. bit_at n bit) none ∙ bit_at-zero bit in
    omega (arith, x, y, both, zero)

-- the bits of a mask without those of another
pub without : (a b bit : ℕ) → a < 2 ^ 32 → b < 2 ^ 32 → IsBitSet (bit_and a (bit_not w32 b)) bit ↔ (IsBitSet a bit × (IsBitSet b bit → ⊥))
without a b bit la lb = (
  λ s. let one = (set_is_one _ bit).0 s in
      let both = bit_at_and a (bit_not w32 b) bit in
      let most = bit_at-lt (bit_not w32 b) bit in
      let here : bit_at a bit ≡ 1 = let m = bit_at-lt a bit in omega (arith, one, both, m) in
      ((set_is_one a bit).1 here, λ t. let low = low_bit a bit la here in let other = bit_at_not w32 b bit lb low in let y = (set_is_one b bit).0 t in omega (arith, one, both, other, y)),
  λ p. let here = (set_is_one a bit).0 p.0 in
      let low = low_bit a bit la here in
      let other = bit_at_not w32 b bit lb low in
      let both = bit_at_and a (bit_not w32 b) bit in
      let most = bit_at-lt b bit in
      (set_is_one _ bit).1 (elim (cases_lt (bit_at b bit) 1) [
        | inl zero ↦ omega (arith, here, other, both, zero)
        | inr more ↦ absurd (p.1 ((set_is_one b bit).1 (omega (arith, most, more))))
      ]),
)
  where
    low_bit : (n i : ℕ) → n < 2 ^ 32 → bit_at n i ≡ 1 → i < 32
    low_bit n i l e = elim (cases_lt i 32) [ inl h ↦ h | inr h ↦ absurd (let z : bit_at n i ≡ 0 = bit_at_above n 32 i l h in omega (arith, z, e)) ]

module _ (a b : Context) where
  -- these bits of the mask are left
  abbrev pub IsLeft : List Constraint → (mask left : ℕ) → Type 0
  IsLeft constraints mask left = (bit : ℕ) → IsBitSet left bit ↔ (IsBitSet mask bit × AllTrue a b constraints bit)

  pub all_left : (mask : ℕ) → IsLeft [] mask mask
  all_left mask bit = (λ s. (s, λ c h. absurd (contains_none c h)), λ p. p.0)

  with_one : (cs : List Constraint) (c : Constraint) (bit : ℕ) → AllTrue a b cs bit → IsTrueAt a b c bit → AllTrue a b (cs ++ c ∷ []) bit
  with_one cs c bit all one d h s = elim (Contains-append_cases cs (c ∷ []) d h) [
    | inl k ↦ all d k s
    | inr k ↦ elim (contains_cases d c [] k) [
      | inl e ↦ subst (λ (x : Constraint). is_true a b x.expr ≡ true) e (one (subst (λ (x : Constraint). IsBitSet x.mask bit) (sym e) s))
      | inr n ↦ absurd (contains_none d n)
    ]
  ]

  before : (cs : List Constraint) (c : Constraint) (bit : ℕ) → AllTrue a b (cs ++ c ∷ []) bit → AllTrue a b cs bit
  before cs c bit all d h s = all d (Contains-append_left cs (c ∷ []) d h) s

  last : (cs : List Constraint) (c : Constraint) (bit : ℕ) → AllTrue a b (cs ++ c ∷ []) bit → IsBitSet c.mask bit → is_true a b c.expr ≡ true
  last cs c bit all s = all c (Contains-append_right cs (c ∷ []) c (contains_here c [])) s

  pub left_more : (cs : List Constraint) (c : Constraint) (mask left : ℕ) → IsLeft cs mask left
      → (after : ℕ) → ((bit : ℕ) → IsBitSet after bit ↔ (IsBitSet left bit × IsTrueAt a b c bit)) → IsLeft (cs ++ c ∷ []) mask after
  left_more cs c mask left so_far after by bit = (
    λ s. let now = (by bit).0 s in let old = (so_far bit).0 now.0 in (old.0, with_one cs c bit old.1 now.1),
    λ p. (by bit).1 ((so_far bit).1 (p.0, before cs c bit p.1), last cs c bit p.1),
  )

  -- a constraint that is false takes its permissions away
  pub left_with : (c : Constraint) (left rest : ℕ) → ((bit : ℕ) → IsBitSet rest bit ↔ (IsBitSet left bit × (IsBitSet c.mask bit → ⊥))) → TakesAway a b c left
      → (bit : ℕ) → IsBitSet rest bit ↔ (IsBitSet left bit × IsTrueAt a b c bit)
  left_with c left rest is takes bit = (
    λ s. let parts = (is bit).0 s in (parts.0, λ t. absurd (parts.1 t)),
    λ p. (is bit).1 (p.0, λ t. let yes = p.1 t in let no = takes.1 in absurd cc),
  )

  -- any other leaves all
  pub left_without : (c : Constraint) (left : ℕ) → (TakesAway a b c left → ⊥) → (bit : ℕ) → IsBitSet left bit ↔ (IsBitSet left bit × IsTrueAt a b c bit)
  left_without c left not bit = (λ s. (s, λ t. decided (is_true a b c.expr) (λ no. not (shared c.mask left bit t s, no))), λ p. p.0)
    where
      decided : (test : Bool) → (test ≡ false → ⊥) → test ≡ true
      decided true f = refl
      decided false f = absurd (f refl)

-- one constraint more
pub one_more : (cs : List Constraint) (i : ℕ) (c : Constraint) → i < length cs → c ≡ get_or cs i c → take i cs ++ c ∷ [] ≡ take (i + 1) cs
one_more cs i c within is = ap (λ (r : Constraint). take i cs ++ r ∷ []) is ∙ sym (take_more cs i c within)
