-- Lists that have exactly the members of a set, and grow one part at a time. One file for every such loop.
use Rattle.std.proofs.Common.{◌≡◌, ◌⊎◌, ℕ, ◌+◌, ◌<◌, ◌≤◌, Bool, true, false, List, [], ◌∷◌, ◌++◌, length, get_or, take, refl, sym, ◌∙◌, ap, subst, inl, inr, arith}
use Rattle.std.specs.Prelude.{◌↔◌, Contains}
use Rattle.std.proofs.lemmas.List.{take_more, take_all}
use Rattle.std.proofs.lemmas.List.Elements.{Contains-append_left, Contains-append_right, Contains-append_cases}
use Rattle.cil_base.specs.Lists.{contains_here, contains_cases, contains_none}
use Rattle.cil_blocks.specs.Doubled.{AreKept, AreThose, only_if}

module _ {X : Type 0} where
  pub no_members : (P : X → Type 0) (xs : List X) → xs ≡ [] → ((x : X) → P x → ⊥) → AreThose P xs
  no_members P xs e none x = ((λ c. absurd (contains_none x (subst (λ ys. Contains ys x) e c))), (λ p. absurd (none x p)))

  pub in_one : (x y : X) → Contains (y ∷ []) x → x ≡ y
  in_one x y c = elim (contains_cases x y [] c) [ inl e ↦ sym e | inr d ↦ absurd (contains_none x d) ]

  -- what is put behind them comes on top
  pub grown : (P Q R : X → Type 0) (old more new : List X) → AreThose P old → AreThose Q more → new ≡ old ++ more → ((x : X) → R x ↔ (P x ⊎ Q x)) → AreThose R new
  grown P Q R old more new so is e all x = (
    (λ c. (all x).1 (elim (Contains-append_cases old more x (subst (λ ys. Contains ys x) e c)) [ inl d ↦ inl ((so x).0 d) | inr d ↦ inr ((is x).0 d) ])),
    (λ r. subst (λ ys. Contains ys x) (sym e) (elim ((all x).0 r) [
      | inl p ↦ Contains-append_left old more x ((so x).1 p)
      | inr q ↦ Contains-append_right old more x ((is x).1 q)
    ])),
  )

  pub in_more : (xs : List X) (k : ℕ) (v d x : X) → k < length xs → v ≡ get_or xs k d → Contains (take (k + 1) xs) x ↔ (Contains (take k xs) x ⊎ (x ≡ v))
  in_more xs k v d x h is =
      let whole : take (k + 1) xs ≡ take k xs ++ v ∷ [] = take_more xs k d h ∙ ap (λ y. take k xs ++ y ∷ []) (sym is) in (
        (λ c. elim (Contains-append_cases (take k xs) (v ∷ []) x (subst (λ ys. Contains ys x) whole c)) [ inl e ↦ inl e | inr e ↦ inr (in_one x v e) ]),
        (λ s. subst (λ ys. Contains ys x) (sym whole) (elim s [
          | inl c ↦ Contains-append_left (take k xs) (v ∷ []) x c
          | inr same ↦ Contains-append_right (take k xs) (v ∷ []) x (subst (Contains (v ∷ [])) (sym same) (contains_here v []))
        ])),
      )

  module _ (T : X → Type 0) where
    pub none_kept : (found : List X) → found ≡ [] → AreKept T [] found
    none_kept found e = no_members (λ x. Contains [] x × T x) found e (λ x p. contains_none x p.0)

    -- one more of a list is looked at
    pub kept_more : (xs : List X) (k : ℕ) (v d : X) (old more new : List X) → k < length xs → v ≡ get_or xs k d → AreThose (λ x. (x ≡ v) × T x) more
        → AreKept T (take k xs) old → new ≡ old ++ more → AreKept T (take (k + 1) xs) new
    kept_more xs k v d old more new h is last so e =
        grown (λ x. Contains (take k xs) x × T x) (λ x. (x ≡ v) × T x) (λ x. Contains (take (k + 1) xs) x × T x) old more new so last e (λ x. (
          (λ p. elim ((in_more xs k v d x h is).0 p.0) [ inl c ↦ inl (c, p.1) | inr same ↦ inr (same, p.1) ]),
          (λ s. elim s [ inl p ↦ ((in_more xs k v d x h is).1 (inl p.0), p.1) | inr p ↦ ((in_more xs k v d x h is).1 (inr p.0), p.1) ]),
        ))

    pub all_kept : (xs : List X) (k : ℕ) (found : List X) → length xs ≤ k → AreKept T (take k xs) found → AreKept T xs found
    all_kept xs k found over so = subst (λ ys. AreKept T ys found) (take_all k xs over) so

-- ---- numbers

module _ (T : ℕ → Type 0) where
  pub only_those : (b : Bool) (v : ℕ) → (b ≡ true → T v) → (T v → b ≡ true) → AreThose (λ x. (x ≡ v) × T x) (only_if b v)
  only_those true v yields back x = (
    (λ c. let e = in_one x v c in (e, subst T (sym e) (yields refl))),
    (λ p. subst (Contains (v ∷ [])) (sym p.0) (contains_here v [])),
  )
  only_those false v yields back x = (
    (λ c. absurd (contains_none x c)),
    (λ p. absurd (let f : false ≡ true = back (subst T p.0 p.1) in cc)),
  )

  or_last : (x k : ℕ) → x < k + 1 → (x < k) ⊎ (x ≡ k)
  or_last x k h = grind arith

  -- one more number is looked at
  pub counted_more : (k : ℕ) (old more new : List ℕ) → AreThose (λ x. (x ≡ k) × T x) more → AreThose (λ x. (x < k) × T x) old → new ≡ old ++ more
      → AreThose (λ x. (x < k + 1) × T x) new
  counted_more k old more new last so e =
      grown (λ x. (x < k) × T x) (λ x. (x ≡ k) × T x) (λ x. (x < k + 1) × T x) old more new so last e (λ x. (
        (λ p. elim (or_last x k p.0) [ inl d ↦ inl (d, p.1) | inr same ↦ inr (same, p.1) ]),
        (λ s. elim s [ inl p ↦ (let h = p.0 in omega (arith, h), p.1) | inr p ↦ (let h = p.0 in omega (arith, h), p.1) ]),
      ))
