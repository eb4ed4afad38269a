-- Finite sets, by a list of their members: what of them is finite again, and what of them can be decided.
use Rattle.std.specs.Prelude.{Contains, Option, Some, None}
use Rattle.std.proofs.Common.{◌≡◌, ◌⊎◌, ℕ, zero, suc, ◌<◌, List, [], ◌∷◌, ◌++◌, refl, sym, ◌∙◌, ap, subst, inl, inr, arith}
use Rattle.std.proofs.lemmas.List.Elements.{Contains-append_left, Contains-append_right, Contains-append_cases}
use Rattle.std.proofs.lemmas.Option.{none-some, same_Some}
use Rattle.std.specs.declared.cmp.Ordering.{Ordering}
use Rattle.std.specs.declared.cmp.Ordering.TheVariants.{Equal}
use Rattle.std.specs.Cmp.{IsTotalOrder}
use Rattle.cil_base.specs.Lists.{contains_here, contains_later, contains_cases, contains_none}
use Rattle.cil_base.specs.Decided.{Decided, decided_same}
use Rattle.cil_base.specs.Listing.{Listing, listing_of}

-- all members of a set
pub record Finite {X : Type 0} (P : X → Type 0) : Type 0 where
  pub all : List X
  pub only : (x : X) → Contains all x → P x
  pub each : (x : X) → P x → Contains all x

-- ---- finite sets

module _ {X : Type 0} where
  pub finite_same : (P Q : X → Type 0) → ((x : X) → P x → Q x) → ((x : X) → Q x → P x) → Finite P → Finite Q
  finite_same P Q there back f = record { all = f.all; only = λ x c. there x (f.only x c); each = λ x q. f.each x (back x q) }

  pub finite_nothing : (P : X → Type 0) → ((x : X) → P x → ⊥) → Finite P
  finite_nothing P none = record { all = []; only = λ x c. absurd (contains_none x c); each = λ x p. absurd (none x p) }

  pub finite_one : (x : X) → Finite (λ y. x ≡ y)
  finite_one x = record {
    all = x ∷ [];
    only = λ y c. elim (contains_cases y x [] c) [ inl e ↦ e | inr d ↦ absurd (contains_none y d) ];
    each = λ y e. subst (Contains (x ∷ [])) e (contains_here x []);
  }

  pub finite_list : (xs : List X) → Finite (Contains xs)
  finite_list xs = record { all = xs; only = λ x c. c; each = λ x c. c }

  pub finite_either : (P Q : X → Type 0) → Finite P → Finite Q → Finite (λ x. P x ⊎ Q x)
  finite_either P Q f g = record {
    all = f.all ++ g.all;
    only = λ x c. elim (Contains-append_cases f.all g.all x c) [ inl d ↦ inl (f.only x d) | inr d ↦ inr (g.only x d) ];
    each = λ x h. elim h [ inl p ↦ Contains-append_left f.all g.all x (f.each x p) | inr q ↦ Contains-append_right f.all g.all x (g.each x q) ];
  }

  -- some member, or none
  some_of : (P : X → Type 0) (xs : List X) → ((x : X) → Contains xs x → P x) → ((x : X) → P x → Contains xs x) → Decided ((x : X) × P x)
  some_of P [] only each = inr (λ h. contains_none h.0 (each h.0 h.1))
  some_of P (x ∷ xs) only each = inl (x, only x (contains_here x xs))

  pub decided_some : (P : X → Type 0) → Finite P → Decided ((x : X) × P x)
  decided_some P f = some_of P f.all f.only f.each

  -- the list of a finite set
  pub finite_listing : (order : X → X → Ordering) → IsTotalOrder order → ((x y : X) → order x y ≡ Equal → x ≡ y) → (P : X → Type 0) → Finite P → Listing order P
  finite_listing order total exact P f = listing_of order total exact P f.all f.only f.each

-- what each member of a finite set gives
module _ {X Y : Type 0} (Q : X → Y → Type 0) where
  finite_each : (P : X → Type 0) → ((x : X) → P x → Finite (Q x)) → (xs : List X) → ((x : X) → Contains xs x → P x)
      → Finite (λ y. (x : X) × Contains xs x × Q x y)
  finite_each P gives [] within = finite_nothing (λ y. (x : X) × Contains [] x × Q x y) (λ y h. contains_none h.0 h.1)
  finite_each P gives (x ∷ xs) within =
      finite_same (λ y. Q x y ⊎ ((z : X) × Contains xs z × Q z y)) (λ y. (z : X) × Contains (x ∷ xs) z × Q z y)
      (λ y h. elim h [ inl q ↦ (x, contains_here x xs, q) | inr r ↦ (r.0, contains_later r.0 x xs r.1, r.2) ])
      (λ y h. elim (contains_cases h.0 x xs h.1) [ inl e ↦ inl (subst (λ z. Q z y) (sym e) h.2) | inr c ↦ inr (h.0, c, h.2) ])
      (finite_either (Q x) (λ y. (z : X) × Contains xs z × Q z y) (gives x (within x (contains_here x xs)))
      (finite_each P gives xs (λ z c. within z (contains_later z x xs c))))

  pub finite_all : (P : X → Type 0) → Finite P → ((x : X) → P x → Finite (Q x)) → Finite (λ y. (x : X) × P x × Q x y)
  finite_all P f gives =
      finite_same (λ y. (x : X) × Contains f.all x × Q x y) (λ y. (x : X) × P x × Q x y) (λ y h. (h.0, f.only h.0 h.1, h.2)) (λ y h. (h.0, f.each h.0 h.1, h.2))
      (finite_each P gives f.all f.only)

module _ {X : Type 0} where
  -- a set that is decided for one element, as the set of that element
  pub finite_if : (A : Type 0) (x : X) → Decided A → Finite (λ y. (x ≡ y) × A)
  finite_if A x (inl a) = finite_same (λ y. x ≡ y) (λ y. (x ≡ y) × A) (λ y e. (e, a)) (λ y h. h.0) (finite_one x)
  finite_if A x (inr none) = finite_nothing (λ y. (x ≡ y) × A) (λ y h. none h.1)

  pub finite_given : (A : Type 0) (P : X → Type 0) → Decided A → Finite P → Finite (λ x. A × P x)
  finite_given A P (inl a) f = finite_same P (λ x. A × P x) (λ x p. (a, p)) (λ x h. h.1) f
  finite_given A P (inr none) f = finite_nothing (λ x. A × P x) (λ x h. none h.0)

  -- the members of which something holds
  pub finite_where : (P Q : X → Type 0) → Finite P → ((x : X) → P x → Decided (Q x)) → Finite (λ x. P x × Q x)
  finite_where P Q f decide =
      finite_same (λ y. (x : X) × P x × ((x ≡ y) × Q x)) (λ y. P y × Q y)
      (λ y h. (subst P h.2.0 h.1, subst Q h.2.0 h.2.1)) (λ y h. (y, h.0, (refl, h.1)))
      (finite_all (λ x y. (x ≡ y) × Q x) P f (λ x p. finite_if (Q x) x (decide x p)))

  pub decided_where : (P Q : X → Type 0) → Finite P → ((x : X) → P x → Decided (Q x)) → Decided ((x : X) × P x × Q x)
  decided_where P Q f decide =
      decided_same (λ h. (h.0, h.1.0, h.1.1)) (λ h. (h.0, (h.1, h.2))) (decided_some (λ x. P x × Q x) (finite_where P Q f decide))

-- whether something is in a finite set
pub member : {X : Type 0} (P : X → Type 0) → Finite P → ((x y : X) → Decided (x ≡ y)) → (x : X) → Decided (P x)
member P f same x =
    decided_same (λ h. subst P h.2 h.1) (λ p. (x, p, refl)) (decided_where P (λ y. y ≡ x) f (λ y p. same y x))

pub finite_image : {X Y : Type 0} (P : X → Type 0) (f : X → Y) → Finite P → Finite (λ y. (x : X) × P x × (f x ≡ y))
finite_image P f all = finite_all (λ x y. f x ≡ y) P all (λ x p. finite_one (f x))

-- the values that a function turns into this one, where another function turns it back
pub finite_inverse : {X Y : Type 0} (f : X → Y) (back : Y → Option X) → ((x : X) → back (f x) ≡ Some x) → ((y : Y) (x : X) → back y ≡ Some x → y ≡ f x) → (y : Y)
    → Finite (λ x. y ≡ f x)
finite_inverse {X} f back there is y = at (back y) refl
  where
    at : (o : Option X) → back y ≡ o → Finite (λ x. y ≡ f x)
    at (Some x) e =
        finite_same (λ z. x ≡ z) (λ z. y ≡ f z) (λ z s. is y x e ∙ ap f s)
        (λ z s. same_Some x z (sym e ∙ ap back s ∙ there z)) (finite_one x)
    at None e = finite_nothing (λ z. y ≡ f z) (λ z s. none-some z (sym e ∙ ap back s ∙ there z))

-- something for each member of a list, and nothing else
pub record Chosen {X Y : Type 0} (R : X → Y → Type 0) (xs : List X) : Type 0 where
  pub all : List Y
  pub each : (x : X) → Contains xs x → (y : Y) × R x y × Contains all y
  pub only : (y : Y) → Contains all y → (x : X) × Contains xs x × R x y

chosen_more : {X Y : Type 0} (R : X → Y → Type 0) (x : X) (xs : List X) (y : Y) → R x y → Chosen R xs → Chosen R (x ∷ xs)
chosen_more {X} {Y} R x xs y is rest = record {
  all = y ∷ rest.all;
  each = λ z c. elim (contains_cases z x xs c) [
    | inl e ↦ (y, subst (λ w. R w y) e is, contains_here y rest.all)
    | inr d ↦ let o = rest.each z d in (o.0, o.1, contains_later o.0 y rest.all o.2)
  ];
  only = λ v c. elim (contains_cases v y rest.all c) [
    | inl e ↦ (x, contains_here x xs, subst (R x) e is)
    | inr d ↦ let o = rest.only v d in (o.0, contains_later o.0 x xs o.1, o.2)
  ];
}

pub chosen : {X Y : Type 0} (R : X → Y → Type 0) (xs : List X) → ((x : X) → Contains xs x → (y : Y) × R x y) → Chosen R xs
chosen R [] give = record { all = []; each = λ x c. absurd (contains_none x c); only = λ y c. absurd (contains_none y c) }
chosen R (x ∷ xs) give =
    let first = give x (contains_here x xs) in
    chosen_more R x xs first.0 first.1 (chosen R xs (λ z c. give z (contains_later z x xs c)))

-- the numbers below a number
pub finite_below : (n : ℕ) → Finite (λ k. k < n)
finite_below zero = finite_nothing (λ k. k < zero) (λ k h. omega (arith, h))
finite_below (suc n) =
    finite_same (λ k. (n ≡ k) ⊎ (k < n)) (λ k. k < suc n) (λ k h. grind (arith, h)) (λ k h. grind (arith, h))
    (finite_either (λ k. n ≡ k) (λ k. k < n) (finite_one n) (finite_below n))
