-- The branches of the booleanifs of a policy, each once, and the number of each. This project's profile.
use Rattle.std.specs.Prelude.{◌≡◌, ◌<◌, ℕ, nat_eq, Bool, true, false, List, find, length, MatchOption, Option, Some, slice_get}
use Rattle.std.specs.List.Sorted.{IsStrictlySortedBy}
use Rattle.std.specs.Option.{option_map}
use Rattle.std.specs.Ordering.{nat_cmp, on}
use Rattle.std.specs.declared.cmp.Ordering.{Ordering}
use Rattle.cil_known.specs.blocks.Contents.{is_conditional}
use Rattle.cil_known.specs.macros.Item.{OptSet}
use Rattle.cil_known.specs.macros.Items.{Kept, condition_at, item_at, items_in}
use Rattle.cil_conditions.specs.declared.branches.Place.{Place}
use Rattle.cil_conditions.specs.declared.branch.Branch.{Branch}
use Rattle.cil_conditions.specs.Conditions.{NamesBooleans}
use Rattle.cil_conditions.specs.Order.{branch_cmp}
use Rattle.cil_conditions.specs.Spelled.{IsBranchOf}

-- branches, and for each booleanif with a condition the numbers of its two branches
pub record NumberedBranches : Type 0 where
  pub rows : List Branch
  pub places : List Place

-- booleanifs in their order
abbrev pub place_cmp : Place → Place → Ordering
place_cmp = on (λ p. p.at) nat_cmp

-- the number of the branch of this value
abbrev pub number_for : Bool → Place → ℕ
number_for true p = p.when_true
number_for false p = p.when_false

-- the number of the branch of this value of the booleanif at a place
abbrev pub number_in : NumberedBranches → ℕ → Bool → Option ℕ
number_in b at value = option_map (number_for value) (find (λ p. nat_eq p.at at) b.places)

-- the branches of these instances: each branch of a placed booleanif whose condition names booleans is among them at its number
pub record AreBranchesOf (i : Kept) (s : OptSet) (booleans : List (List ℕ)) (b : NumberedBranches) : Type 0 where
  pub rise : IsStrictlySortedBy branch_cmp b.rows
  pub each : (at : ℕ) (value : Bool) → is_conditional (item_at i at).keyword ≡ true → at < length (items_in i)
      → MatchOption (number_in b at value) (NamesBooleans (items_in i) s (condition_at i at) → ⊥)
      (λ n. (r : Branch) × (slice_get b.rows n ≡ Some r) × IsBranchOf (items_in i) s booleans (Some (condition_at i at, value)) (Some r))
