-- What a set answers, and the order of sets.
use Rattle.std.specs.Prelude.{ℕ, ◌≤◌, List, ◌∷◌, length, Contains}
use Rattle.std.specs.Cmp.{IsTotalOrder}
use Rattle.std.specs.Ordering.{on}
use Rattle.std.specs.declared.cmp.Ordering.{Ordering}
use Rattle.std.proofs.lemmas.Cmp.{on_total, nat_list_cmp_total}
use Rattle.cil_base.specs.Lists.{text_cmp}

-- the least member from a number on
pub record IsNextFrom (set : List ℕ) (start v : ℕ) : Type 0 where
  pub member : Contains set v
  pub after : start ≤ v
  pub least : (u : ℕ) → Contains set u → start ≤ u → v ≤ u

-- the least number that two sets have in common
pub record IsLeastCommon (one other : List ℕ) (v : ℕ) : Type 0 where
  pub first : Contains one v
  pub second : Contains other v
  pub least : (u : ℕ) → Contains one u → Contains other u → v ≤ u

-- a set as numbers: how many there are, and each
abbrev pub set_fields : List ℕ → List ℕ
set_fields numbers = length numbers ∷ numbers

-- sets are in the order of how many members they have, and then of these: the byte order of the table format
abbrev pub set_cmp : List ℕ → List ℕ → Ordering
set_cmp = on set_fields text_cmp

-- any two sets have an order
pub set_total : IsTotalOrder set_cmp
set_total = on_total set_fields nat_list_cmp_total
