-- The order of paths: shorter first, then the first place that differs. One place more on each keeps it.
use Rattle.std.proofs.Common.{◌≡◌, ℕ, ◌<◌, ◌≤◌, List, [], ◌∷◌, ◌++◌, length, refl, sym, ◌∙◌, ap, arith}
use Rattle.std.specs.declared.cmp.Ordering.{Ordering}
use Rattle.std.specs.declared.cmp.Ordering.TheVariants.{Less, Equal, Greater}
use Rattle.std.specs.Ordering.{nat_cmp, on, then_cmp, ordering_then, ordering_reverse}
use Rattle.std.specs.Cmp.{nat_cmp_is, IsTotalOrder}
use Rattle.std.specs.Cmp.Lexicographic.{slice_cmp}
use Rattle.std.proofs.lemmas.Cmp.{by_ranked, ranked}
use Rattle.cil_base.specs.Places.{longer}

pub less_from : (a b : ℕ) → a < b → nat_cmp a b ≡ Less
less_from a b h = sym (nat_cmp_is a b Less h)

pub equal_from : (a b : ℕ) → a ≡ b → nat_cmp a b ≡ Equal
equal_from a b h = sym (nat_cmp_is a b Equal h)

pub below_by : (a b : ℕ) → nat_cmp a b ≡ Less → a < b
below_by a b e =
    by_ranked _ _ _ (nat_cmp a b) (ranked a b (nat_cmp a b) refl) (λ l h. h)
    (λ q h. absurd (let f : Less ≡ Equal = sym e ∙ q in cc)) (λ g h. absurd (let f : Less ≡ Greater = sym e ∙ g in cc))

pub same_by : (a b : ℕ) → nat_cmp a b ≡ Equal → a ≡ b
same_by a b e =
    by_ranked _ _ _ (nat_cmp a b) (ranked a b (nat_cmp a b) refl) (λ l h. absurd (let f : Equal ≡ Less = sym e ∙ l in cc))
    (λ q h. h) (λ g h. absurd (let f : Equal ≡ Greater = sym e ∙ g in cc))

-- two orders, one after the other, tie where both do
pub both_equal : (a b : Ordering) → ordering_then a b ≡ Equal → (a ≡ Equal) × (b ≡ Equal)
both_equal Less b e = absurd (let f : Less ≡ Equal = e in cc)
both_equal Equal b e = (refl, e)
both_equal Greater b e = absurd (let f : Greater ≡ Equal = e in cc)

-- what is its own reverse is a tie
pub its_own : (o : Ordering) → o ≡ ordering_reverse o → o ≡ Equal
its_own Less e = absurd (let f : Less ≡ Greater = e in cc)
its_own Equal e = refl
its_own Greater e = absurd (let f : Greater ≡ Less = e in cc)

-- the first that differs decides, whatever follows
then_less : (o : Ordering) (p q : Ordering) → (p ≡ Less → q ≡ Less) → ordering_then o p ≡ Less → ordering_then o q ≡ Less
then_less Less p q f e = refl
then_less Equal p q f e = f e
then_less Greater p q f e = e

module _ {K : Type 0} (c : K → K → Ordering) (total : IsTotalOrder c) where
  abbrev path_order : List K → List K → Ordering
  path_order = then_cmp (on length nat_cmp) (slice_cmp c)

  tied : (x : K) → c x x ≡ Equal
  tied x = its_own (c x x) (total.antisymm x x)

  pub shorter : (s t : List K) → length s < length t → path_order s t ≡ Less
  shorter s t h = ap (λ o. ordering_then o (slice_cmp c s t)) (less_from (length s) (length t) h)

  of_one_length : (s t : List K) → length s ≡ length t → slice_cmp c s t ≡ Less → path_order s t ≡ Less
  of_one_length s t h e = ap (λ o. ordering_then o (slice_cmp c s t)) (equal_from (length s) (length t) h) ∙ e

  one_more : (s t : List K) (a b : K) → length s ≡ length t → slice_cmp c s t ≡ Less → slice_cmp c (s ++ a ∷ []) (t ++ b ∷ []) ≡ Less
  one_more [] [] a b h e = absurd (let f : Equal ≡ Less = e in cc)
  one_more [] (y ∷ ys) a b h e = absurd (omega (arith, h))
  one_more (x ∷ xs) [] a b h e = absurd (omega (arith, h))
  one_more (x ∷ xs) (y ∷ ys) a b h e =
      then_less (c x y) (slice_cmp c xs ys) (slice_cmp c (xs ++ a ∷ []) (ys ++ b ∷ [])) (one_more xs ys a b (omega (arith, h))) e

  last_decides : (s : List K) (a b : K) → c a b ≡ Less → slice_cmp c (s ++ a ∷ []) (s ++ b ∷ []) ≡ Less
  last_decides [] a b h = ap (λ o. ordering_then o Equal) h
  last_decides (x ∷ xs) a b h = ap (λ o. ordering_then o (slice_cmp c (xs ++ a ∷ []) (xs ++ b ∷ []))) (tied x) ∙ last_decides xs a b h

  by_first : (o : Ordering) (s t : List K) (a b : K) → nat_cmp (length s) (length t) ≡ o → ordering_then o (slice_cmp c s t) ≡ Less
      → path_order (s ++ a ∷ []) (t ++ b ∷ []) ≡ Less
  by_first Less s t a b is e =
      let below = below_by (length s) (length t) is in
      shorter (s ++ a ∷ []) (t ++ b ∷ []) (let p = longer s a in let q = longer t b in omega (arith, p, q, below))
  by_first Equal s t a b is e =
      let same = same_by (length s) (length t) is in
      of_one_length (s ++ a ∷ []) (t ++ b ∷ []) (let p = longer s a in let q = longer t b in omega (arith, p, q, same)) (one_more s t a b same e)
  by_first Greater s t a b is e = absurd (let f : Greater ≡ Less = e in cc)

  pub opened_later : (s t : List K) (a b : K) → path_order s t ≡ Less → path_order (s ++ a ∷ []) (t ++ b ∷ []) ≡ Less
  opened_later s t a b e = by_first (nat_cmp (length s) (length t)) s t a b refl e

  pub opened_beside : (s : List K) (a b : K) → c a b ≡ Less → path_order (s ++ a ∷ []) (s ++ b ∷ []) ≡ Less
  opened_beside s a b h = of_one_length (s ++ a ∷ []) (s ++ b ∷ []) (longer s a ∙ sym (longer s b)) (last_decides s a b h)

  pub longer_than_one : (s : List K) (a b : K) → 1 ≤ length s → path_order (a ∷ []) (s ++ b ∷ []) ≡ Less
  longer_than_one s a b h = shorter (a ∷ []) (s ++ b ∷ []) (let p = longer s b in omega (arith, p, h))

  pub alone : (a b : K) → c a b ≡ Less → path_order (a ∷ []) (b ∷ []) ≡ Less
  alone a b h = opened_beside [] a b h
