-- Passes over lists: what each item gives, one after another.
use Rattle.std.specs.List.{flat_map}
use Rattle.std.proofs.Common.{◌≡◌, ℕ, ◌+◌, ◌<◌, ◌≤◌, List, [], ◌∷◌, ◌++◌, length, take, get_or, sym, ◌∙◌, ap, append_assoc}
use Rattle.std.proofs.lemmas.List.{append-nil, take_more, take_all}
use Rattle.std.proofs.lemmas.List.Concat.{flat_map-append, flat_map-cons}

-- one item more of a list, and what it gives
each_more : {X A : Type 0} (f : X → List A) (xs : List X) (i : ℕ) (x : X) → i < length xs → x ≡ get_or xs i x
    → flat_map f (take (i + 1) xs) ≡ flat_map f (take i xs) ++ f x
each_more f xs i x within is =
    ap (flat_map f) (take_more xs i x within ∙ ap (λ y. take i xs ++ y ∷ []) (sym is))
    ∙ flat_map-append f (take i xs) (x ∷ [])
    ∙ ap (λ z. flat_map f (take i xs) ++ z) (flat_map-cons f x [] ∙ append-nil (f x))

-- some items were handed on, and then what one item more gives
pub gave_more : {X A : Type 0} (f : X → List A) (xs : List X) (i : ℕ) (x : X) (old new : List A) → i < length xs → x ≡ get_or xs i x
    → old ≡ flat_map f (take i xs) → new ≡ old ++ f x → new ≡ flat_map f (take (i + 1) xs)
gave_more f xs i x old new within is was push = push ∙ ap (λ z. z ++ f x) was ∙ sym (each_more f xs i x within is)

pub gave_all : {X A : Type 0} (f : X → List A) (xs : List X) (i : ℕ) (new : List A) → new ≡ flat_map f (take i xs) → length xs ≤ i → new ≡ flat_map f xs
gave_all f xs i new is over = is ∙ ap (flat_map f) (take_all i xs over)

-- the same, behind what was there
pub gave_more_behind : {X A : Type 0} (f : X → List A) (xs : List X) (i : ℕ) (x : X) (front old new : List A) → i < length xs → x ≡ get_or xs i x
    → old ≡ front ++ flat_map f (take i xs) → new ≡ old ++ f x → new ≡ front ++ flat_map f (take (i + 1) xs)
gave_more_behind f xs i x front old new within is was push =
    push ∙ ap (λ z. z ++ f x) was ∙ append_assoc front (flat_map f (take i xs)) (f x) ∙ ap (λ z. front ++ z) (sym (each_more f xs i x within is))

pub gave_all_behind : {X A : Type 0} (f : X → List A) (xs : List X) (i : ℕ) (front new : List A) → new ≡ front ++ flat_map f (take i xs) → length xs ≤ i
    → new ≡ front ++ flat_map f xs
gave_all_behind f xs i front new is over = is ∙ ap (λ ys. front ++ flat_map f ys) (take_all i xs over)
