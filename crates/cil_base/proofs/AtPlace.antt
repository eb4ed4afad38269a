-- What is at a place of a list, and the row of an instance.
use Rattle.std.specs.Prelude.{Some, None, option_map, slice_get}
use Rattle.std.proofs.Common.{◌≡◌, ℕ, ◌<◌, ◌≤◌, List, length, map, get_or, refl, sym, ◌∙◌, ap}
use Rattle.std.proofs.lemmas.Option.{slice_get-map, slice_get_past, slice_get_read}

module _ {X : Type 0} (xs ys : List X) (n : ℕ) (same : xs ≡ ys) where
  pub at_place : (x : X) → n < length xs → x ≡ get_or xs n x → slice_get ys n ≡ Some x
  at_place x within is = ap (λ zs. slice_get zs n) (sym same) ∙ slice_get_read xs (length xs) n x refl within is

  pub past_end : length xs ≤ n → slice_get ys n ≡ None
  past_end past = ap (λ zs. slice_get zs n) (sym same) ∙ slice_get_past xs n past

-- what is made of an item is at its place
pub made_at : {X Y : Type 0} (f : X → Y) (xs : List X) (n : ℕ) (x : X) → n < length xs → x ≡ get_or xs n x → slice_get (map f xs) n ≡ Some (f x)
made_at f xs n x within is = slice_get-map f xs n ∙ ap (option_map f) (slice_get_read xs (length xs) n x refl within is)
