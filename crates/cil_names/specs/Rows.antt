-- Rows one after another in one list, with the places where they begin.
use Rattle.std.specs.Prelude.{◌≡◌, ◌≤◌, ℕ, List, [], ◌∷◌, get_or, length, slice_range, Option}
use Rattle.std.specs.List.{AllByRecursion}
use Rattle.cil_names.specs.declared.table.Words.{Words}

-- a row ends where the next one begins, and the last one where all end
unfoldable pub lists_at : {Y : Type 0} → List ℕ → List Y → List (List Y)
lists_at [] ys = []
lists_at (start ∷ starts) ys = slice_range ys start (get_or starts 0 (length ys)) ∷ lists_at starts ys

-- no place is behind the end
abbrev pub AreWithin : ℕ → List ℕ → Type 0
AreWithin end starts = AllByRecursion (λ start. start ≤ end) starts

-- the table has these rows
pub record IsTableOf (rows : List (List (Option ℕ))) (w : Words) : Type 0 where
  pub within : AreWithin (length w.words.items) w.starts.items
  pub are : lists_at w.starts.items w.words.items ≡ rows
