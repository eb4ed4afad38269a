-- Sets of numbers, and tests of their members.
use Rattle.std.proofs.Common.{◌≡◌, ◌⊎◌, ◌↔◌, ℕ, Bool, true, false, ◌||◌, ◌==◌, List, [], ◌∷◌, refl, sym, subst, inl, inr, arith}
use Rattle.std.specs.Prelude.{Contains}
use Rattle.std.specs.Ordering.{nat_cmp}
use Rattle.std.proofs.lemmas.Bool.Decides.{nat_tests}
use Rattle.cil_base.specs.Lists.{Lists, contains_cases, contains_here, contains_later, contains_none}
use Rattle.cil_base.specs.Searches.{same_truth}
use Rattle.cil_sets.specs.declared.part.Joining.{Joining}
use Rattle.cil_sets.specs.declared.part.Joining.TheVariants.{Union, Both, Either, Without}
use Rattle.cil_sets.specs.Joined.{IsJoined}
use Rattle.cil_base.specs.Among.{among}
use Rattle.cil_attrs.specs.Evaluated.{test_by}

equal_number : (a b : ℕ) → (a == b) ≡ true → a ≡ b
equal_number a b e = grind (arith, nat_tests)

number_equal : (a b : ℕ) → a ≡ b → (a == b) ≡ true
number_equal a b e = grind (arith, nat_tests)

pub among_is : (xs : List ℕ) (v : ℕ) → (among xs v ≡ true) ↔ Contains xs v
among_is [] v = (λ h. absurd (let e : false ≡ true = h in cc), λ c. absurd (contains_none v c))
among_is (x ∷ xs) v =
    let rest = among_is xs v in (
      λ h. elim (or_true (x == v) (among xs v) h) [ inl e ↦ by_equal (equal_number x v e) | inr t ↦ contains_later v x xs (rest.0 t) ],
      λ c. elim (contains_cases v x xs c) [ inl e ↦ left (x == v) (among xs v) (number_equal x v e) | inr d ↦ right (x == v) (among xs v) (rest.1 d) ],
    ) where
      or_true : (a b : Bool) → (a || b) ≡ true → (a ≡ true) ⊎ (b ≡ true)
      or_true true b h = inl refl
      or_true false b h = inr h

      left : (a b : Bool) → a ≡ true → (a || b) ≡ true
      left true b h = refl
      left false b h = absurd (let e : false ≡ true = h in cc)

      right : (a b : Bool) → b ≡ true → (a || b) ≡ true
      right true b h = refl
      right false b h = h

      by_equal : x ≡ v → Contains (x ∷ xs) v
      by_equal e = subst (Contains (x ∷ xs)) e (contains_here x xs)

true_not_false : (b : Bool) → (b ≡ true → ⊥) → b ≡ false
true_not_false true f = absurd (f refl)
true_not_false false f = refl

-- a test that is true where the members are
pub by_members : (xs : List ℕ) (v : ℕ) (b : Bool) → Contains xs v ↔ (b ≡ true) → among xs v ≡ b
by_members xs v b h = let is = among_is xs v in same_truth (among xs v) b (λ t. h.0 (is.0 t)) (λ t. is.1 (h.1 t))

joined_true : (how : Joining) (a b : Bool) → (test_by how a b ≡ true) ↔ IsJoined how (a ≡ true) (b ≡ true)
joined_true Union true b = (λ h. inl refl, λ h. refl)
joined_true Union false b = (λ h. inr h, λ h. elim h [ inl e ↦ absurd (let f : false ≡ true = e in cc) | inr e ↦ e ])
joined_true Both true b = (λ h. (refl, h), λ h. h.1)
joined_true Both false b = (λ h. absurd (let f : false ≡ true = h in cc), λ h. h.0)
joined_true Either true true = (λ h. absurd (let f : false ≡ true = h in cc), λ h. elim h [ inl p ↦ absurd (p.1 refl) | inr p ↦ absurd (p.0 refl) ])
joined_true Either true false = (λ h. inl (refl, λ e. let f : false ≡ true = e in cc), λ h. refl)
joined_true Either false b = (λ h. inr (λ e. (let f : false ≡ true = e in cc), h), λ h. elim h [ inl p ↦ absurd (let f : false ≡ true = p.0 in cc) | inr p ↦ p.1 ])
joined_true Without true true = (λ h. absurd (let f : false ≡ true = h in cc), λ h. absurd (h.1 refl))
joined_true Without true false = (λ h. (refl, λ e. let f : false ≡ true = e in cc), λ h. refl)
joined_true Without false b = (λ h. absurd (let f : false ≡ true = h in cc), λ h. h.0)

joined_map : (how : Joining) (P Q R S : Type 0) → P ↔ R → Q ↔ S → IsJoined how P Q → IsJoined how R S
joined_map Union P Q R S f g (inl p) = inl (f.0 p)
joined_map Union P Q R S f g (inr q) = inr (g.0 q)
joined_map Both P Q R S f g h = (f.0 h.0, g.0 h.1)
joined_map Either P Q R S f g (inl h) = inl (f.0 h.0, λ s. h.1 (g.1 s))
joined_map Either P Q R S f g (inr h) = inr (λ r. h.0 (f.1 r), g.0 h.1)
joined_map Without P Q R S f g h = (f.0 h.0, λ s. h.1 (g.1 s))

flip : {P Q : Type 0} → P ↔ Q → Q ↔ P
flip h = (h.1, h.0)

pub joined_test : (how : Joining) (xs ys rs : List ℕ) → Lists nat_cmp (λ v. IsJoined how (Contains xs v) (Contains ys v)) rs → (v : ℕ) → among rs v ≡ test_by how (among xs v) (among ys v)
joined_test how xs ys rs l v = by_members rs v (test_by how (among xs v) (among ys v)) (
  λ c. (joined_true how (among xs v) (among ys v)).1 (joined_map how _ _ _ _ (flip (among_is xs v)) (flip (among_is ys v)) ((l.members v).0 c)),
  λ t. (l.members v).1 (joined_map how _ _ _ _ (among_is xs v) (among_is ys v) ((joined_true how (among xs v) (among ys v)).0 t)),
)

pub added_test : (xs rs : List ℕ) (n : ℕ) → Lists nat_cmp (λ v. Contains xs v ⊎ (v ≡ n)) rs → (v : ℕ) → among rs v ≡ (among xs v || (n == v))
added_test xs rs n l v = by_members rs v (among xs v || (n == v)) (
  λ c. there (among xs v) (n == v) (elim ((l.members v).0 c) [ inl d ↦ inl ((among_is xs v).1 d) | inr e ↦ inr (number_equal n v (sym e)) ]),
  λ t. (l.members v).1 (elim (back (among xs v) (n == v) t) [ inl d ↦ inl ((among_is xs v).0 d) | inr e ↦ inr (sym (equal_number n v e)) ]),
) where
  there : (a b : Bool) → (a ≡ true) ⊎ (b ≡ true) → (a || b) ≡ true
  there true b h = refl
  there false b h = elim h [ inl e ↦ absurd (let f : false ≡ true = e in cc) | inr e ↦ e ]

  back : (a b : Bool) → (a || b) ≡ true → (a ≡ true) ⊎ (b ≡ true)
  back true b h = inl refl
  back false b h = inr h

pub or_none : (a : Bool) → a ≡ (a || false)
or_none true = refl
or_none false = refl
