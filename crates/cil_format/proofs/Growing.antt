-- Sets that are filled from a rising list, one item after the other.
use Rattle.std.proofs.Common.{◌≡◌, ◌⊎◌, ℕ, suc, ◌+◌, ◌≤◌, ◌<◌, List, [], ◌∷◌, ◌++◌, length, take, get_or, sym, ap, subst, ◌∙◌, inl, inr, arith}
use Rattle.std.specs.Cmp.{IsTotalOrder}
use Rattle.std.specs.List.{Contains}
use Rattle.std.specs.List.Sorted.{IsStrictlySortedBy}
use Rattle.std.specs.declared.cmp.Ordering.{Ordering}
use Rattle.std.proofs.Math.Seq.{take-suc}
use Rattle.std.proofs.lemmas.List.{take_all}
use Rattle.std.proofs.lemmas.List.Elements.{Contains-push, Contains-append_left, Contains-append_cases}
use Rattle.cil_base.specs.Lists.{Lists, contains_cases, contains_none, same_members}

module _ {X : Type 0} (order : X → X → Ordering) where
  -- a set to which the next item of a list was added has one item of the list more
  pub one_more : (xs : List X) (i : ℕ) (d : X) (old new : List X) → i < length xs → Lists order (Contains (take i xs)) old → Lists order (λ v. Contains old v ⊎ (v ≡ get_or xs i d)) new
      → Lists order (Contains (take (i + 1) xs)) new
  one_more xs i d old new lt before after = record { rising = after.rising; members = λ v. (there v, back v) }
    where
      split : take (i + 1) xs ≡ take i xs ++ get_or xs i d ∷ []
      split = let next : i + 1 ≡ suc i = omega arith in ap (λ (k : ℕ). take k xs) next ∙ take-suc xs i d lt

      there : (v : X) → Contains new v → Contains (take (i + 1) xs) v
      there v c =
          subst (λ (l : List X). Contains l v) (sym split)
          (elim ((after.members v).0 c) [
            | inl old_one ↦ Contains-append_left (take i xs) (get_or xs i d ∷ []) v ((before.members v).0 old_one)
            | inr e ↦ subst (Contains (take i xs ++ get_or xs i d ∷ [])) (sym e) (Contains-push (take i xs) (get_or xs i d))
          ])

      back : (v : X) → Contains (take (i + 1) xs) v → Contains new v
      back v c =
          (after.members v).1
          (elim (Contains-append_cases (take i xs) (get_or xs i d ∷ []) v (subst (λ (l : List X). Contains l v) split c)) [
            | inl old_one ↦ inl ((before.members v).1 old_one)
            | inr one ↦ elim (contains_cases v (get_or xs i d) [] one) [ inl e ↦ inr (sym e) | inr none ↦ absurd (contains_none v none) ]
          ])

  -- the set of all items of a rising list is the list
  pub all_of : IsTotalOrder order → (xs : List X) (i : ℕ) (set : List X) → IsStrictlySortedBy order xs → length xs ≤ i → Lists order (Contains (take i xs)) set → set ≡ xs
  all_of total xs i set up le is =
      let whole : take i xs ≡ xs = take_all i xs le in
      same_members order total set xs is.rising up (λ v c. subst (λ (l : List X). Contains l v) whole ((is.members v).0 c))
      (λ v c. (is.members v).1 (subst (λ (l : List X). Contains l v) (sym whole) c))

  -- no item yet
  pub none_of : (set : List X) → set ≡ [] → Lists order (Contains []) set
  unfolding IsStrictlySortedBy
  none_of set e = subst (Lists order (Contains [])) (sym e) record { rising = tt; members = λ v. (λ c. c, λ c. c) }
