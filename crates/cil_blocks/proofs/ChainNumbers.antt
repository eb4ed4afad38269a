-- The numbers of a namespace and of those round it.
use Rattle.std.proofs.Common.{◌≡◌, ℕ, zero, suc, ◌≤◌, List, [], ◌∷◌, ◌++◌, length, map, refl, sym, ◌∙◌, ap, inl, inr, arith}
use Rattle.std.specs.Prelude.{Option, Some, None, flat_map, slice_get}
use Rattle.cil_base.specs.Lists.{contains_cases, contains_here, contains_later, contains_none}
use Rattle.cil_base.specs.Places.{get_in_front, none_some}
use Rattle.cil_syntax.specs.Scopes.{chain}
use Rattle.cil_blocks.specs.declared.namespaces.Space.{Space}
use Rattle.cil_blocks.specs.Namespaces.{AreNamespaces, IsGrown, inner_at, space_at}
use Rattle.cil_blocks.specs.Numbers.{AreWithin, chain_numbers, chain_through, chain_within}
use Rattle.cil_blocks.proofs.NumberLemmas.{chain_next, inner_behind, none_left}

through_same : (k : ℕ) (o p : Option Space) (f g : ℕ → List ℕ) → o ≡ p → ((s : Space) → o ≡ Some s → f s.outer ≡ g s.outer) → chain_through k o f ≡ chain_through k p g
through_same k None p f g e all = ap (λ q. chain_through k q g) e
through_same k (Some s) p f g e all = ap (λ ks. k ∷ ks) (all s refl) ∙ ap (λ q. chain_through k q g) e

module _ (ss : List Space) (are : AreNamespaces ss) where
  -- so many are enough
  enough : (f g k : ℕ) → k ≤ f → k ≤ g → chain_within ss f k ≡ chain_within ss g k
  unfolding chain_within
  enough zero zero k h l = refl
  enough zero (suc g) zero h l = refl
  enough zero (suc g) (suc k) h l = absurd (omega (arith, h))
  enough (suc f) zero zero h l = refl
  enough (suc f) zero (suc k) h l = absurd (omega (arith, l))
  enough (suc f) (suc g) k h l =
      through_same k (inner_at ss k) (inner_at ss k) (chain_within ss f) (chain_within ss g) refl
      (λ s e. let b = inner_behind ss are k s e in enough f g s.outer (omega (arith, b, h)) (omega (arith, b, l)))

  none_within : (f k : ℕ) → inner_at ss k ≡ None → chain_within ss f k ≡ []
  unfolding chain_within
  none_within zero k e = refl
  none_within (suc f) k e = ap (λ o. chain_through k o (chain_within ss f)) e

  one_within : (f k : ℕ) (s : Space) → inner_at ss k ≡ Some s → chain_within ss (suc f) k ≡ k ∷ chain_within ss f s.outer
  unfolding chain_within
  one_within f k s e = ap (λ o. chain_through k o (chain_within ss f)) e

  pub none_round : (k : ℕ) → inner_at ss k ≡ None → chain_numbers ss k ≡ []
  none_round k e = none_within k k e

  pub one_round : (k : ℕ) (s : Space) → inner_at ss k ≡ Some s → chain_numbers ss k ≡ k ∷ chain_numbers ss s.outer
  one_round zero s e = absurd (none_some s e)
  one_round (suc i) s e =
      let b = inner_behind ss are (suc i) s e in
      one_within i (suc i) s e ∙ ap (λ ks. suc i ∷ ks) (enough i s.outer s.outer (omega (arith, b)) (omega arith))

  -- ---- what they are

  spaces_by : (f k : ℕ) (o : Option Space) → inner_at ss k ≡ o → k ≤ length ss
      → ((s : Space) → o ≡ Some s → map (space_at ss) (chain_within ss f s.outer) ≡ chain (space_at ss s.outer))
      → map (space_at ss) (chain_through k o (chain_within ss f)) ≡ chain (space_at ss k)
  spaces_by f k None e h more = sym (none_left ss are k h e)
  spaces_by f k (Some s) e h more = ap (λ ns. space_at ss k ∷ ns) (more s refl) ∙ sym (chain_next ss are k s e)

  spaces_within : (f k : ℕ) → k ≤ f → k ≤ length ss → map (space_at ss) (chain_within ss f k) ≡ chain (space_at ss k)
  unfolding chain_within
  spaces_within zero zero h l = sym (none_left ss are zero l refl)
  spaces_within zero (suc k) h l = absurd (omega (arith, h))
  spaces_within (suc f) k h l =
      spaces_by f k (inner_at ss k) refl l
      (λ s e. let b = inner_behind ss are k s e in spaces_within f s.outer (omega (arith, b, h)) (omega (arith, b, l)))

  pub chain_spaces : (k : ℕ) → k ≤ length ss → map (space_at ss) (chain_numbers ss k) ≡ chain (space_at ss k)
  chain_spaces k h = spaces_within k k (omega arith) h

  all_by : (f k : ℕ) (o : Option Space) → inner_at ss k ≡ o → k ≤ length ss → ((s : Space) → o ≡ Some s → AreWithin ss (chain_within ss f s.outer))
      → AreWithin ss (chain_through k o (chain_within ss f))
  all_by f k None e h more = λ m c. absurd (contains_none m c)
  all_by f k (Some s) e h more = λ m c.
      elim (contains_cases m k (chain_within ss f s.outer) c) [
        | inl same ↦ omega (arith, same, h)
        | inr d ↦ more s refl m d
      ]

  all_of : (f k : ℕ) → k ≤ length ss → AreWithin ss (chain_within ss f k)
  unfolding chain_within
  all_of zero k h = λ m c. absurd (contains_none m c)
  all_of (suc f) k h =
      all_by f k (inner_at ss k) refl h (λ s e. let b = inner_behind ss are k s e in all_of f s.outer (omega (arith, b, h)))

  pub chain_all : (k : ℕ) → k ≤ length ss → AreWithin ss (chain_numbers ss k)
  chain_all k h = all_of k k h

-- ---- they stay when namespaces are added

inner_stays : (old new : List Space) (k : ℕ) → IsGrown old new → k ≤ length old → inner_at new k ≡ inner_at old k
inner_stays old new zero g h = refl
inner_stays old new (suc i) (more, e) h = ap (λ ss. slice_get ss i) e ∙ get_in_front old more i (omega (arith, h))

within_stays : (old new : List Space) → AreNamespaces old → IsGrown old new → (f k : ℕ) → k ≤ length old → chain_within new f k ≡ chain_within old f k
unfolding chain_within
within_stays old new are g zero k h = refl
within_stays old new are g (suc f) k h =
    through_same k (inner_at new k) (inner_at old k) (chain_within new f) (chain_within old f) (inner_stays old new k g h)
    (λ s e. let b = inner_behind old are k s (sym (inner_stays old new k g h) ∙ e) in within_stays old new are g f s.outer (omega (arith, b, h)))

pub chains_stay : (old new : List Space) → AreNamespaces old → IsGrown old new → (ks : List ℕ) → AreWithin old ks
    → flat_map (chain_numbers new) ks ≡ flat_map (chain_numbers old) ks
chains_stay old new are g [] all = refl
chains_stay old new are g (k ∷ ks) all =
    ap (λ xs. xs ++ flat_map (chain_numbers new) ks) (within_stays old new are g k k (all k (contains_here k ks)))
    ∙ ap (λ xs. chain_numbers old k ++ xs) (chains_stay old new are g ks (λ m c. all m (contains_later m k ks c)))
