-- The list of some elements in a stated order: it is there for each finite set, so no definition by a list leaves one out.
use Rattle.std.specs.Prelude.{◌≡◌, ◌⊎◌, List, [], ◌∷◌, Contains, refl}
use Rattle.std.specs.declared.cmp.Ordering.{Ordering}
use Rattle.std.specs.declared.cmp.Ordering.TheVariants.{Less, Equal, Greater}
use Rattle.std.specs.Ordering.{ordering_reverse}
use Rattle.std.specs.Cmp.{IsTotalOrder}
use Rattle.std.specs.List.Sorted.{IsStrictlySortedBy}
use Rattle.std.proofs.Common.{sym, ◌∙◌, ap, subst, inl, inr}
use Rattle.cil_base.specs.Lists.{Lists, contains_here, contains_later, contains_cases, contains_none, all_at}
use Rattle.cil_base.specs.Rising.{all_from}

-- a list of a set
pub record Listing {X : Type 0} (order : X → X → Ordering) (set : X → Type 0) : Type 0 where
  pub list : List X
  pub lists : Lists order set list

module _ {X : Type 0} where
  module _ (order : X → X → Ordering) (total : IsTotalOrder order) (exact : (x y : X) → order x y ≡ Equal → x ≡ y) where
    -- the head, and then what comes behind it
    in_front : (y : X) (zs : List X) (set : X → Type 0) → ((z : X) → set z → order y z ≡ Less) → Lists order set zs → Lists order (λ z. (y ≡ z) ⊎ set z) (y ∷ zs)
    unfolding IsStrictlySortedBy
    in_front y zs set behind l = record {
      rising = (all_from (λ z. order y z ≡ Less) zs (λ z c. behind z ((l.members z).0 c)), l.rising);
      members = λ z. (
        (λ c. elim (contains_cases z y zs c) [ inl e ↦ inl e | inr d ↦ inr ((l.members z).0 d) ]),
        (λ h. elim h [ inl e ↦ subst (Contains (y ∷ zs)) e (contains_here y zs) | inr s ↦ contains_later z y zs ((l.members z).1 s) ]),
      );
    }

    own : (ys : List X) → IsStrictlySortedBy order ys → Lists order (Contains ys) ys
    own ys rising = record { rising = rising; members = λ z. ((λ c. c), (λ c. c)) }

    same_set : (P Q : X → Type 0) (l : Listing order P) → ((x : X) → P x → Q x) → ((x : X) → Q x → P x) → Listing order Q
    same_set P Q l there back = record {
      list = l.list;
      lists = record { rising = l.lists.rising; members = λ x. ((λ c. there x ((l.lists.members x).0 c)), (λ q. (l.lists.members x).1 (back x q))) };
    }

    -- an element before all others, one that is the head, and one behind the head
    first_one : (x y : X) (ys : List X) → order x y ≡ Less → IsStrictlySortedBy order (y ∷ ys) → Listing order (λ z. (x ≡ z) ⊎ Contains (y ∷ ys) z)
    unfolding IsStrictlySortedBy
    first_one x y ys e rising = record {
      list = x ∷ y ∷ ys;
      lists =
          in_front x (y ∷ ys) (Contains (y ∷ ys)) (λ z c. elim (contains_cases z y ys c) [
            | inl s ↦ subst (λ w. order x w ≡ Less) s e
            | inr d ↦ total.trans x y z e (all_at (λ w. order y w ≡ Less) ys z rising.0 d)
          ]) (own (y ∷ ys) rising);
    }

    head_again : (x y : X) (ys : List X) → x ≡ y → IsStrictlySortedBy order (y ∷ ys) → Listing order (λ z. (x ≡ z) ⊎ Contains (y ∷ ys) z)
    head_again x y ys e rising =
        same_set (Contains (y ∷ ys)) (λ z. (x ≡ z) ⊎ Contains (y ∷ ys) z) (record { list = y ∷ ys; lists = own (y ∷ ys) rising }) (λ z c. inr c)
        (λ z h. elim h [ inl s ↦ subst (Contains (y ∷ ys)) (sym e ∙ s) (contains_here y ys) | inr c ↦ c ])

    later_one : (x y : X) (ys : List X) → order y x ≡ Less → IsStrictlySortedBy order (y ∷ ys) → Listing order (λ z. (x ≡ z) ⊎ Contains ys z)
        → Listing order (λ z. (x ≡ z) ⊎ Contains (y ∷ ys) z)
    unfolding IsStrictlySortedBy
    later_one x y ys e rising l =
        same_set (λ z. (y ≡ z) ⊎ ((x ≡ z) ⊎ Contains ys z)) (λ z. (x ≡ z) ⊎ Contains (y ∷ ys) z)
        (record {
          list = y ∷ l.list;
          lists =
              in_front y l.list (λ z. (x ≡ z) ⊎ Contains ys z) (λ z h. elim h [
                | inl s ↦ subst (λ w. order y w ≡ Less) s e
                | inr d ↦ all_at (λ w. order y w ≡ Less) ys z rising.0 d
              ]) l.lists;
        })
        (λ z h. elim h [ inl s ↦ inr (subst (Contains (y ∷ ys)) s (contains_here y ys)) | inr k ↦ elim k [ inl s ↦ inl s | inr d ↦ inr (contains_later z y ys d) ] ])
        (λ z h. elim h [ inl s ↦ inr (inl s) | inr c ↦ elim (contains_cases z y ys c) [ inl s ↦ inl s | inr d ↦ inr (inr d) ] ])

    place_one : (x y : X) (ys : List X) (o : Ordering) → order x y ≡ o → IsStrictlySortedBy order (y ∷ ys) → Listing order (λ z. (x ≡ z) ⊎ Contains ys z)
        → Listing order (λ z. (x ≡ z) ⊎ Contains (y ∷ ys) z)
    place_one x y ys Less e rising l = first_one x y ys e rising
    place_one x y ys Equal e rising l = head_again x y ys (exact x y e) rising
    place_one x y ys Greater e rising l = later_one x y ys (total.antisymm y x ∙ ap ordering_reverse e) rising l

    -- one element more
    with_one : (x : X) (ys : List X) → IsStrictlySortedBy order ys → Listing order (λ z. (x ≡ z) ⊎ Contains ys z)
    unfolding IsStrictlySortedBy
    with_one x [] rising = record { list = x ∷ []; lists = in_front x [] (Contains []) (λ z c. absurd (contains_none z c)) (own [] rising) }
    with_one x (y ∷ ys) rising = place_one x y ys (order x y) refl rising (with_one x ys rising.1)

    -- some elements have a list, in which each stands once
    pub listing : (xs : List X) → Listing order (Contains xs)
    unfolding IsStrictlySortedBy
    listing [] = record { list = []; lists = own [] tt }
    listing (x ∷ xs) =
        let rest = listing xs in
        let all = with_one x rest.list rest.lists.rising in
        same_set (λ z. (x ≡ z) ⊎ Contains rest.list z) (Contains (x ∷ xs)) all
        (λ z h. elim h [ inl s ↦ subst (Contains (x ∷ xs)) s (contains_here x xs) | inr c ↦ contains_later z x xs ((rest.lists.members z).0 c) ])
        (λ z c. elim (contains_cases z x xs c) [ inl s ↦ inl s | inr d ↦ inr ((rest.lists.members z).1 d) ])

    -- a set with the same members as some elements has a list
    pub listing_of : (set : X → Type 0) (xs : List X) → ((x : X) → Contains xs x → set x) → ((x : X) → set x → Contains xs x) → Listing order set
    listing_of set xs there back = same_set (Contains xs) set (listing xs) there back
