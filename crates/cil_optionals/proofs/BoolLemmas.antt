-- Small facts on tests.
use Rattle.std.specs.Prelude.{Option, Some, None, slice_get, not, map}
use Rattle.std.specs.List.{list_any, list_all}
use Rattle.std.specs.Option.{option_map, option_map_or}
use Rattle.std.proofs.Common.{◌≡◌, ℕ, zero, suc, Bool, true, false, ◌&&◌, ◌||◌, List, [], ◌∷◌, ◌++◌, refl, sym, ap, ◌∙◌}
use Rattle.std.proofs.lemmas.List.{map-append}
use Rattle.std.proofs.lemmas.Option.{slice_get-map}

pub and_left : (a b : Bool) → (a && b) ≡ true → a ≡ true
and_left true b h = refl
and_left false b h = absurd (let e : false ≡ true = h in cc)

pub and_right : (a b : Bool) → (a && b) ≡ true → b ≡ true
and_right true b h = h
and_right false b h = absurd (let e : false ≡ true = h in cc)

pub and_of : (a b : Bool) → a ≡ true → b ≡ true → (a && b) ≡ true
and_of true b g h = h
and_of false b g h = absurd (let e : false ≡ true = g in cc)

pub not_true : (b : Bool) → not b ≡ true → b ≡ false
not_true true h = absurd (let e : false ≡ true = h in cc)
not_true false h = refl

pub true_not : (b : Bool) → b ≡ false → not b ≡ true
true_not true h = absurd (let e : true ≡ false = h in cc)
true_not false h = refl

-- where the one test says yes, so does the other
pub implied : (a b : Bool) → (not a || b) ≡ true → a ≡ true → b ≡ true
implied true b h g = h
implied false b h g = absurd (let e : false ≡ true = g in cc)

pub implies : (a b : Bool) → (a ≡ true → b ≡ true) → (not a || b) ≡ true
implies true b f = f refl
implies false b f = refl

-- ---- options

-- a test of what may be there says yes
pub tested : {X : Type 0} (p : X → Bool) (o : Option X) → option_map_or p o false ≡ true → (x : X) × (o ≡ Some x) × (p x ≡ true)
tested p None h = absurd (let e : false ≡ true = h in cc)
tested p (Some x) h = (x, refl, h)

pub test_of : {X : Type 0} (p : X → Bool) (o : Option X) (x : X) → o ≡ Some x → p x ≡ true → option_map_or p o false ≡ true
test_of p o x e h = ap (λ z. option_map_or p z false) e ∙ h

-- an item of the one list comes from one of the other
pub got_from : {X Y : Type 0} (f : X → Y) (o : Option X) (y : Y) → option_map f o ≡ Some y → (x : X) × (o ≡ Some x) × (y ≡ f x)
got_from f None y e = absurd (let g : None ≡ Some y = e in cc)
got_from f (Some x) y e = (x, refl, let g : Some (f x) ≡ Some y = e in cc)

pub map_from : {X Y : Type 0} (f : X → Y) (xs : List X) (i : ℕ) (y : Y) → slice_get (map f xs) i ≡ Some y → (x : X) × (slice_get xs i ≡ Some x) × (y ≡ f x)
map_from f xs i y e = got_from f (slice_get xs i) y (sym (slice_get-map f xs i) ∙ e)

pub map_to : {X Y : Type 0} (f : X → Y) (xs : List X) (i : ℕ) (x : X) → slice_get xs i ≡ Some x → slice_get (map f xs) i ≡ Some (f x)
map_to f xs i x e = slice_get-map f xs i ∙ ap (option_map f) e

pub map_or : {X Y : Type 0} (f : X → Y) (p : Y → Bool) (xs : List X) (i : ℕ) → option_map_or p (slice_get (map f xs) i) false ≡ option_map_or (λ x. p (f x)) (slice_get xs i) false
map_or f p [] i = refl
map_or f p (x ∷ xs) zero = refl
map_or f p (x ∷ xs) (suc i) = map_or f p xs i

-- ---- lists

-- a list that is made item by item
pub one_more_made : {X Y : Type 0} (f : X → Y) (before after : List Y) (y : Y) (xs more : List X) (x : X)
    → after ≡ before ++ y ∷ [] → before ≡ map f xs → y ≡ f x → more ≡ xs ++ x ∷ [] → after ≡ map f more
one_more_made f before after y xs more x pushed made is taken =
    pushed ∙ (λ i. made i ++ is i ∷ []) ∙ sym (map-append f xs (x ∷ [])) ∙ ap (map f) (sym taken)

pub all_at : {X : Type 0} (p : X → Bool) (xs : List X) (i : ℕ) (x : X) → list_all p xs ≡ true → slice_get xs i ≡ Some x → p x ≡ true
all_at p [] i x h e = absurd (let g : None ≡ Some x = e in cc)
all_at p (y ∷ ys) zero x h e = ap p (let g : Some x ≡ Some y = sym e in cc) ∙ and_left (p y) (list_all p ys) h
all_at p (y ∷ ys) (suc i) x h e = all_at p ys i x (and_right (p y) (list_all p ys) h) e

pub all_of : {X : Type 0} (p : X → Bool) (xs : List X) → ((i : ℕ) (x : X) → slice_get xs i ≡ Some x → p x ≡ true) → list_all p xs ≡ true
all_of p [] f = refl
all_of p (y ∷ ys) f = and_of (p y) (list_all p ys) (f 0 y refl) (all_of p ys (λ i x e. f (suc i) x e))

-- a test finds one of them
abbrev pub FindsIn : {X : Type 0} → (X → Bool) → List X → Type 0
FindsIn {X} p xs = (i : ℕ) × (x : X) × (slice_get xs i ≡ Some x) × (p x ≡ true)

any_step : {X : Type 0} (p : X → Bool) (y : X) (ys : List X) (b : Bool) → p y ≡ b → (list_any p ys ≡ true → FindsIn p ys) → (b || list_any p ys) ≡ true
    → FindsIn p (y ∷ ys)
any_step p y ys true e f h = (0, y, refl, e)
any_step p y ys false e f h = let r = f h in (suc r.0, r.1, r.2, r.3)

pub any_at : {X : Type 0} (p : X → Bool) (xs : List X) → list_any p xs ≡ true → FindsIn p xs
any_at p [] h = absurd (let g : false ≡ true = h in cc)
any_at p (y ∷ ys) h = any_step p y ys (p y) refl (any_at p ys) h
