-- A search for what has a number.
use Rattle.std.specs.Prelude.{Contains, None, Option, Some, find, nat_eq, slice_get}
use Rattle.std.proofs.Common.{◌≡◌, ℕ, Bool, List, get_or, refl, sym, ◌∙◌, ap}
use Rattle.std.proofs.lemmas.Bool.{eq-eqb, eqb-true}
use Rattle.cil_base.specs.Found.{IsFound, IsMissing}
use Rattle.cil_base.specs.Places.{get_at, get_contains, get_so, some_same}
use Rattle.cil_base.specs.Searches.{find_some, found_is}

-- ---- a search for a number

module _ {X : Type 0} (key : X → ℕ) (at : ℕ) where
  abbrev is_at : X → Bool
  is_at x = nat_eq (key x) at

  pub find_there : (xs : List X) (x : X) → Contains xs x → key x ≡ at → ((y : X) → Contains xs y → key y ≡ at → y ≡ x) → find is_at xs ≡ Some x
  find_there xs x c e only =
      let f = find_some is_at xs x c (eq-eqb (key x) at e) in
      let g = found_is is_at xs f.0 f.1 in
      f.1 ∙ ap Some (only f.0 g.0 (eqb-true (key f.0) at g.1))

  pub find_nothing : (xs : List X) → ((y : X) → Contains xs y → key y ≡ at → ⊥) → find is_at xs ≡ None
  find_nothing xs none = nothing (find is_at xs) refl
    where
      nothing : (o : Option X) → find is_at xs ≡ o → find is_at xs ≡ None
      nothing None e = e
      nothing (Some y) e = let g = found_is is_at xs y e in absurd (none y g.0 (eqb-true (key y) at g.1))

  pub found_there : (xs : List X) (n : ℕ) (d : X) → IsFound key xs at n → Some (get_or xs n d) ≡ find is_at xs
  found_there xs n d f =
      ap Some (get_so xs n f.item d f.at)
      ∙ sym (find_there xs f.item (get_contains xs n f.item f.at) f.has_key (λ y c e.
      let g = get_at xs y c in some_same y f.item (sym g.2 ∙ ap (slice_get xs) (f.only g.0 y g.2 e) ∙ f.at)))

  pub missing_there : (xs : List X) → IsMissing key xs at → None ≡ find is_at xs
  missing_there xs none = sym (find_nothing xs (λ y c e. let g = get_at xs y c in none g.0 y g.2 e))
