-- Links by their holders: which links some sets are, one for each holder.
use Rattle.std.specs.Prelude.{ℕ, suc, List, [], ◌∷◌, ◌++◌, map, Contains}
use Rattle.std.specs.Ordering.{nat_cmp}
use Rattle.std.specs.List.Sorted.{IsStrictlySortedBy}
use Rattle.cil_tables.specs.declared.tables.Link.{Link}

abbrev pub link_to : ℕ → ℕ → Link
link_to holder held = record { holder = holder; held = held }

-- the links of some sets, the first of which is that of this holder
unfoldable pub links_from : ℕ → List (List ℕ) → List Link
links_from n [] = []
links_from n (row ∷ rows) = map (link_to n) row ++ links_from (suc n) rows

-- each set is a rising list
abbrev pub AreRising : List (List ℕ) → Type 0
AreRising rows = (row : List ℕ) → Contains rows row → IsStrictlySortedBy nat_cmp row
