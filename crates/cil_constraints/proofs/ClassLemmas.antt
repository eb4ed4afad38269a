-- A part of a list is what passes a test.
use Rattle.std.specs.Prelude.{take, drop}
use Rattle.std.proofs.Common.{◌≡◌, ℕ, zero, suc, ◌+◌, ◌-◌, ◌<◌, ◌≤◌, Bool, true, false, cond, List, [], ◌∷◌, length, get_or, refl, sym, ap, subst, ◌∙◌, inl, inr, arith}
use Rattle.std.specs.Prelude.{◌⊎◌, ◌==◌}
use Rattle.std.specs.List.{filter}
use Rattle.std.specs.List.Sorted.{IsPartitionPoint}
use Rattle.std.proofs.Math.Dec.{ltb, leb}
use Rattle.std.proofs.lemmas.Bool.Decides.{nat_tests}
use Rattle.std.proofs.lemmas.List.{get_or-drop, length-drop}
use Rattle.std.specs.Prelude.{◌↔◌, Contains, IsBitSet}
use Rattle.cil_base.specs.Lists.{contains_cases, contains_here, contains_later, contains_none}
use Rattle.cil_constraints.specs.declared.expr.Context.{Context}
use Rattle.cil_constraints.specs.declared.mask.Constraint.{Constraint}
use Rattle.cil_constraints.specs.Permitted.{AllMet, AllTrue}
use Rattle.std.specs.Ordering.{nat_cmp, ordering_then}
use Rattle.std.specs.declared.cmp.Ordering.{Ordering}
use Rattle.std.specs.declared.cmp.Ordering.TheVariants.{Less, Equal, Greater}
use Rattle.std.specs.List.Sorted.{IsNonDecreasingBy, IsStrictlySortedBy}
use Rattle.std.proofs.lemmas.Bool.{cases_lt}
use Rattle.cil_base.specs.Paths.{below_by, both_equal, same_by}
use Rattle.cil_base.proofs.SearchLemmas.{rising_at}
use Rattle.cil_constraints.specs.Order.{constraint_cmp}
use Rattle.cil_constraints.proofs.NumberTests.{number_tells, same_number}

module _ {X : Type 0} (p : X → Bool) where
  kept : (x : X) (xs : List X) → p x ≡ true → filter p (x ∷ xs) ≡ x ∷ filter p xs
  kept x xs e = ap (λ b. cond b (x ∷ filter p xs) (filter p xs)) e

  dropped : (x : X) (xs : List X) → p x ≡ false → filter p (x ∷ xs) ≡ filter p xs
  dropped x xs e = ap (λ b. cond b (x ∷ filter p xs) (filter p xs)) e

  pub part_is : (xs : List X) (a m : ℕ) → a + m ≤ length xs → ((k : ℕ) (d : X) → k < a → p (get_or xs k d) ≡ false)
      → ((k : ℕ) (d : X) → a ≤ k → k < a + m → p (get_or xs k d) ≡ true) → ((k : ℕ) (d : X) → a + m ≤ k → k < length xs → p (get_or xs k d) ≡ false)
      → take m (drop a xs) ≡ filter p xs
  part_is [] zero zero l low mid high = refl
  part_is [] zero (suc m) l low mid high = refl
  part_is [] (suc a) zero l low mid high = refl
  part_is [] (suc a) (suc m) l low mid high = refl
  part_is (x ∷ xs) (suc a) m l low mid high =
      part_is xs a m (omega (arith, l)) (λ k d b. low (suc k) d (omega (arith, b))) (λ k d b c. mid (suc k) d (omega (arith, b)) (omega (arith, c)))
      (λ k d b c. high (suc k) d (omega (arith, b)) (omega (arith, c))) ∙ sym (dropped x xs (low 0 x (omega arith)))
  part_is (x ∷ xs) zero (suc m) l low mid high =
      ap (λ ys. x ∷ ys) (part_is xs zero m (omega (arith, l)) (λ k d b. absurd (omega (arith, b))) (λ k d b c. mid (suc k) d (omega arith) (omega (arith, c)))
      (λ k d b c. high (suc k) d (omega (arith, b)) (omega (arith, c)))) ∙ sym (kept x xs (mid 0 x (omega arith) (omega arith)))
  part_is (x ∷ xs) zero zero l low mid high =
      part_is xs zero zero (omega arith) (λ k d b. absurd (omega (arith, b))) (λ k d b c. absurd (omega (arith, c))) (λ k d b c. high (suc k) d (omega arith) (omega (arith, c)))
      ∙ sym (dropped x xs (high 0 x (omega arith) (omega arith)))

ltb_true : (a b : ℕ) → ltb a b ≡ true → a < b
ltb_true a b e = grind (arith, nat_tests)

ltb_false : (a b : ℕ) → ltb a b ≡ false → b ≤ a
ltb_false a b e = grind (arith, nat_tests)

leb_true : (a b : ℕ) → leb a b ≡ true → a ≤ b
leb_true a b e = grind (arith, nat_tests)

leb_false : (a b : ℕ) → leb a b ≡ false → b < a
leb_false a b e = grind (arith, nat_tests)

pub point_below : (constraints : List Constraint) (v i : ℕ) → IsPartitionPoint (λ e. ltb e.class v ≡ true) (λ e. ltb e.class v ≡ false) constraints i → IsPartitionPoint (λ e. e.class < v) (λ e. v ≤ e.class) constraints i
point_below constraints v i p = (λ k d a b. ltb_true _ _ (p.0 k d a b), λ k d a b. ltb_false _ _ (p.1 k d a b))

pub point_up_to : (constraints : List Constraint) (v i : ℕ) → IsPartitionPoint (λ e. leb e.class v ≡ true) (λ e. leb e.class v ≡ false) constraints i → IsPartitionPoint (λ e. e.class ≤ v) (λ e. v < e.class) constraints i
point_up_to constraints v i p = (λ k d a b. leb_true _ _ (p.0 k d a b), λ k d a b. leb_false _ _ (p.1 k d a b))

not_it : (a v : ℕ) → (a < v) ⊎ (v < a) → (a == v) ≡ false
not_it a v l = grind (arith, nat_tests)

it : (a v : ℕ) → a ≤ v → v ≤ a → (a == v) ≡ true
it a v l m = grind (arith, nat_tests)

beyond : (a k : ℕ) → a ≤ k → (j : ℕ) × (k ≡ a + j)
beyond a k l = (k - a, omega (arith, l))

-- what is known of an element of the rest, of the element itself
from_rest : (P : Constraint → Type 0) (constraints : List Constraint) (a k j : ℕ) (d : Constraint) → k ≡ a + j → P (get_or (drop a constraints) j d) → P (get_or constraints k d)
from_rest P constraints a k j d e h = subst P (get_or-drop a constraints j d ∙ ap (λ z. get_or constraints z d) (sym e)) h

-- the part between both places is what leaves the thing
pub row_is : (constraints : List Constraint) (v a m : ℕ) → a ≤ length constraints → m ≤ length (drop a constraints) → IsPartitionPoint (λ e. e.class < v) (λ e. v ≤ e.class) constraints a
    → IsPartitionPoint (λ e. e.class ≤ v) (λ e. v < e.class) (drop a constraints) m → take m (drop a constraints) ≡ filter (λ e. e.class == v) constraints
row_is constraints v a m l n p q =
    let len = length-drop a constraints in
    part_is (λ e. e.class == v) constraints a m (omega (arith, l, n, len)) (λ k d b. not_it _ _ (inl (p.0 k d (omega arith) b)))
    (λ k d b c.
    let at = beyond a k b in
    it _ _ (from_rest (λ e. e.class ≤ v) constraints a k at.0 d at.1 (q.0 at.0 d (omega arith) (let e = at.1 in omega (arith, e, c)))) (p.1 k d b (omega (arith, c, l, n, len))))
    (λ k d b c.
    let at = beyond a k (omega (arith, b)) in
    not_it _ _ (inr (from_rest (λ e. v < e.class) constraints a k at.0 d at.1 (q.1 at.0 d (let e = at.1 in omega (arith, e, b)) (let e = at.1 in omega (arith, e, c, len))))))

-- ---- what is true of the constraints on a class

in_filter : {X : Type 0} (p : X → Bool) (xs : List X) (x : X) → Contains (filter p xs) x → Contains xs x × (p x ≡ true)
in_filter p [] x c = absurd (contains_none x c)
in_filter p (y ∷ ys) x c = go (p y) refl (in_filter p ys x) where
  go : (b : Bool) → p y ≡ b → (Contains (filter p ys) x → Contains ys x × (p x ≡ true)) → Contains (y ∷ ys) x × (p x ≡ true)
  go true e again = elim (contains_cases x y (filter p ys) (subst (λ zs. Contains zs x) (kept p y ys e) c)) [
    | inl same ↦ (subst (Contains (y ∷ ys)) same (contains_here y ys), subst (λ z. p z ≡ true) same (e))
    | inr d ↦ let r = again d in (contains_later x y ys r.0, r.1)
  ]
  go false e again = let r = again (subst (λ zs. Contains zs x) (dropped p y ys e) c) in (contains_later x y ys r.0, r.1)

to_filter : {X : Type 0} (p : X → Bool) (xs : List X) (x : X) → Contains xs x → p x ≡ true → Contains (filter p xs) x
to_filter p [] x c e = absurd (contains_none x c)
to_filter p (y ∷ ys) x c e = elim (contains_cases x y ys c) [
  | inl same ↦ subst (λ zs. Contains zs x) (sym (kept p y ys (subst (λ z. p z ≡ true) (sym same) e))) (subst (Contains (y ∷ filter p ys)) same (contains_here y (filter p ys)))
  | inr d ↦ go (p y) refl (to_filter p ys x d e)
] where
  go : (b : Bool) → p y ≡ b → Contains (filter p ys) x → Contains (filter p (y ∷ ys)) x
  go true f d = subst (λ zs. Contains zs x) (sym (kept p y ys f)) (contains_later x y (filter p ys) d)
  go false f d = subst (λ zs. Contains zs x) (sym (dropped p y ys f)) d

module _ (a b : Context) (constraints : List Constraint) (class_ bit : ℕ) where
  pub all_met : AllTrue a b (filter (λ c. c.class == class_) constraints) bit ↔ AllMet a b constraints class_ bit
  all_met = (
    λ all c d e. all c (to_filter (λ c. c.class == class_) constraints c d (number_tells c.class class_ e)),
    λ all c d. let r = in_filter (λ c. c.class == class_) constraints c d in all c r.0 (same_number c.class class_ r.1),
  )

-- the permissions that are left, where those on the class are all of these
pub met_is : (a b : Context) (constraints some : List Constraint) (class_ mask left : ℕ) → some ≡ filter (λ c. c.class == class_) constraints
    → ((bit : ℕ) → IsBitSet left bit ↔ (IsBitSet mask bit × AllTrue a b some bit)) → (bit : ℕ) → IsBitSet left bit ↔ (IsBitSet mask bit × AllMet a b constraints class_ bit)
met_is a b constraints some class_ mask left is by bit = (
  λ s. let r = (by bit).0 s in (r.0, (all_met a b constraints class_ bit).0 (subst (λ cs. AllTrue a b cs bit) is r.1)),
  λ p. (by bit).1 (p.0, subst (λ cs. AllTrue a b cs bit) (sym is) ((all_met a b constraints class_ bit).1 p.1)),
)

-- ---- the order of constraints is that of their classes first

first_less : (o p : Ordering) → ordering_then o p ≡ Less → (o ≡ Less) ⊎ (o ≡ Equal)
first_less Less p e = inl refl
first_less Equal p e = inr refl
first_less Greater p e = absurd (let f : Greater ≡ Less = e in cc)

less_class : (x y : Constraint) → constraint_cmp x y ≡ Less → x.class ≤ y.class
less_class x y e = elim (first_less _ _ e) [ inl f ↦ by_two f | inr f ↦ let s = same_by x.class y.class (both_equal _ _ f).0 in omega (arith, s) ] where
  by_two : ordering_then (nat_cmp x.class y.class) (nat_cmp x.mask y.mask) ≡ Less → x.class ≤ y.class
  by_two f = elim (first_less _ _ f) [ inl g ↦ let l = below_by x.class y.class g in omega (arith, l) | inr g ↦ let s = same_by x.class y.class g in omega (arith, s) ]

-- constraints that rise are in the order of their classes
pub classes_rise : (cs : List Constraint) → IsStrictlySortedBy constraint_cmp cs → IsNonDecreasingBy (λ c. c.class) cs
classes_rise cs up i j d le within = elim (cases_lt i j) [
  | inl less ↦ less_class (get_or cs i d) (get_or cs j d) (rising_at constraint_cmp cs i j d up less within)
  | inr ge ↦ let same : i ≡ j = omega arith in rw same (omega arith)
]
