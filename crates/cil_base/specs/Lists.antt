-- The list of a set in a stated order: the one form in which every layer hands a set up. Two lists of one set
-- in one order are equal, so what two hosts make of one set is one value.
use Rattle.std.specs.Prelude.{◌≡◌, ℕ, zero, suc, ◌↔◌, ◌⊎◌, Bool, true, List, [], ◌∷◌}
use Rattle.std.specs.declared.cmp.Ordering.{Ordering}
use Rattle.std.specs.declared.cmp.Ordering.TheVariants.{Less}
use Rattle.std.specs.Ordering.{ordering_reverse, nat_cmp}
use Rattle.std.specs.Cmp.{IsTotalOrder}
use Rattle.std.specs.Cmp.Lexicographic.{slice_cmp}
use Rattle.std.specs.List.{Contains, AllByRecursion}
use Rattle.std.specs.List.Sorted.{IsStrictlySortedBy}
use Rattle.std.proofs.Common.{refl, sym, ◌∙◌, ap, subst, inl, inr, arith}

-- the list rises, and its members are those of the set
pub record Lists {X : Type 0} (order : X → X → Ordering) (set : X → Type 0) (xs : List X) : Type 0 where
  pub rising : IsStrictlySortedBy order xs
  pub members : (x : X) → Contains xs x ↔ set x

-- byte by byte, and a text before those that it begins
abbrev pub text_cmp : List ℕ → List ℕ → Ordering
text_cmp = slice_cmp nat_cmp

-- a law: a set of texts has one list
abbrev pub HasOneList : Type 0
HasOneList =
    (set : List ℕ → Bool) (xs ys : List (List ℕ)) → Lists text_cmp (λ t. set t ≡ true) xs → Lists text_cmp (λ t. set t ≡ true) ys → xs ≡ ys

module _ {X : Type 0} where
  pub contains_here : (x : X) (xs : List X) → Contains (x ∷ xs) x
  contains_here x xs = (0, omega arith, refl)

  pub contains_later : (x y : X) (ys : List X) → Contains ys x → Contains (y ∷ ys) x
  contains_later x y ys c = (suc c.0, omega (arith, c.1), c.2)

  pub contains_cases : (x y : X) (ys : List X) → Contains (y ∷ ys) x → (y ≡ x) ⊎ Contains ys x
  contains_cases x y ys (zero, h, e) = inl e
  contains_cases x y ys (suc k, h, e) = inr (k, omega arith, e)

  pub contains_none : (x : X) → Contains [] x → ⊥
  contains_none x c = omega (arith, c.1)

  pub all_at : (P : X → Type 0) (xs : List X) (x : X) → AllByRecursion P xs → Contains xs x → P x
  all_at P [] x all c = absurd (contains_none x c)
  all_at P (y ∷ ys) x all c =
      elim (contains_cases x y ys c) [ inl e ↦ subst P e all.0 | inr d ↦ all_at P ys x all.1 d ]

  module _ (order : X → X → Ordering) (total : IsTotalOrder order) where
    pub not_below_itself : (x : X) → order x x ≡ Less → ⊥
    not_below_itself x e =
        let turned : Less ≡ ordering_reverse Less = sym e ∙ total.antisymm x x ∙ ap ordering_reverse e in cc

    -- the members of the tail are those that come after the head
    tail_within : (x : X) (xs ys : List X) → AllByRecursion (λ z. order x z ≡ Less) xs
        → ((z : X) → Contains (x ∷ xs) z → Contains (x ∷ ys) z) → (z : X) → Contains xs z → Contains ys z
    tail_within x xs ys above within z c =
        elim (contains_cases z x ys (within z (contains_later z x xs c))) [
          | inl e ↦ absurd (not_below_itself x (subst (λ w. order x w ≡ Less) (sym e) (all_at (λ w. order x w ≡ Less) xs z above c)))
          | inr d ↦ d
        ]

    -- two rising lists with one head and the same members: the tails have the same members
    with_head : (x : X) (xs ys : List X) → IsStrictlySortedBy order (x ∷ xs) → IsStrictlySortedBy order (x ∷ ys)
        → ((z : X) → Contains (x ∷ xs) z → Contains (x ∷ ys) z) → ((z : X) → Contains (x ∷ ys) z → Contains (x ∷ xs) z)
        → (IsStrictlySortedBy order xs → IsStrictlySortedBy order ys
        → ((z : X) → Contains xs z → Contains ys z) → ((z : X) → Contains ys z → Contains xs z) → xs ≡ ys)
        → x ∷ xs ≡ x ∷ ys
    unfolding IsStrictlySortedBy
    with_head x xs ys up down there back same =
        ap (λ w. x ∷ w) (same up.1 down.1 (tail_within x xs ys up.0 there) (tail_within x ys xs down.0 back))

    pub same_members : (xs ys : List X) → IsStrictlySortedBy order xs → IsStrictlySortedBy order ys
        → ((z : X) → Contains xs z → Contains ys z) → ((z : X) → Contains ys z → Contains xs z) → xs ≡ ys
    unfolding IsStrictlySortedBy
    same_members [] [] up down there back = refl
    same_members [] (y ∷ ys) up down there back = absurd (contains_none y (back y (contains_here y ys)))
    same_members (x ∷ xs) [] up down there back = absurd (contains_none x (there x (contains_here x xs)))
    same_members (x ∷ xs) (y ∷ ys) up down there back =
        elim (contains_cases x y ys (there x (contains_here x xs))) [
          | inl e ↦ with_head x xs ys up (subst (λ w. IsStrictlySortedBy order (w ∷ ys)) e down)
              (subst (λ w. (z : X) → Contains (x ∷ xs) z → Contains (w ∷ ys) z) e there)
              (subst (λ w. (z : X) → Contains (w ∷ ys) z → Contains (x ∷ xs) z) e back) (same_members xs ys)
              ∙ ap (λ w. w ∷ ys) (sym e)
          | inr c ↦ elim (contains_cases y x xs (back y (contains_here y ys))) [
            | inl e ↦ absurd (not_below_itself y (subst (λ w. order y w ≡ Less) e (all_at (λ w. order y w ≡ Less) ys x down.0 c)))
            | inr d ↦ absurd (not_below_itself x
                (total.trans x y x (all_at (λ w. order x w ≡ Less) xs y up.0 d) (all_at (λ w. order y w ≡ Less) ys x down.0 c)))
          ]
        ]

    -- two lists of one set are equal
    pub one_list : (set : X → Type 0) (xs ys : List X) → Lists order set xs → Lists order set ys → xs ≡ ys
    one_list set xs ys a b =
        same_members xs ys a.rising b.rising (λ z c. (b.members z).1 ((a.members z).0 c)) (λ z c. (a.members z).1 ((b.members z).0 c))
