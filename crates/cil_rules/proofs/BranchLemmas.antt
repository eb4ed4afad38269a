-- What is put for the branch of a statement.
use Rattle.std.specs.Prelude.{Bool, true, MatchOption, Option, None, Some, slice_get}
use Rattle.std.proofs.Common.{◌≡◌, ◌<◌, ℕ, suc, List, length, subst, sym}
use Rattle.cil_classes.specs.blocks.Contents.{Branch as Said, is_conditional}
use Rattle.cil_conditions.specs.declared.branch.Branch.{Branch}
use Rattle.cil_conditions.specs.Conditions.{IsSaid, NamesBooleans}
use Rattle.cil_conditions.specs.Numbered.{AreBranchesOf, NumberedBranches, number_in}
use Rattle.cil_conditions.specs.Spelled.{IsBranchOf}
use Rattle.cil_conditions.proofs.ConditionLemmas.{spelled_is_said}
use Rattle.cil_macros.specs.Item.{Item, OptSet}
use Rattle.cil_macros.specs.Items.{Kept, condition_at, item_at, items_in}
use Rattle.cil_rules.specs.Kept.{branch_named}

-- where it is spelled, it is said
pub put_is_said : (xs : List Item) (s : OptSet) (booleans : List (List ℕ)) (b : Option Said) (r : Option Branch) → IsBranchOf xs s booleans b r → IsSaid xs s b
put_is_said xs s booleans None r is = tt
put_is_said xs s booleans (Some b) None is = absurd is
put_is_said xs s booleans (Some b) (Some r) is = spelled_is_said xs s booleans b.0 r.condition is.0

-- ---- the branch of a number

module _ (i : Kept) (s : OptSet) (booleans : List (List ℕ)) (b : NumberedBranches) (are : AreBranchesOf i s booleans b) (at : ℕ) (value : Bool)
    (conditional : is_conditional (item_at i at).keyword ≡ true) (within : at < length (items_in i)) where
  abbrev Found : Option ℕ → Type 0
  Found o = MatchOption o (NamesBooleans (items_in i) s (condition_at i at) → ⊥)
      (λ n. (r : Branch) × (slice_get b.rows n ≡ Some r) × IsBranchOf (items_in i) s booleans (Some (condition_at i at, value)) (Some r))

  -- that of a booleanif
  pub branch_there : (n : ℕ) → number_in b at value ≡ Some n → (k : ℕ) → k ≡ suc n → (said : Option Said) → said ≡ Some (condition_at i at, value)
      → IsBranchOf (items_in i) s booleans said (branch_named b.rows k)
  branch_there n is k counted said says =
      let found = subst Found is (are.each at value conditional within) in
      subst (λ o. IsBranchOf (items_in i) s booleans o (branch_named b.rows k)) (sym says)
      (subst (λ m. IsBranchOf (items_in i) s booleans (Some (condition_at i at, value)) (branch_named b.rows m)) (sym counted)
      (subst (IsBranchOf (items_in i) s booleans (Some (condition_at i at, value))) (sym found.1) found.2))

  -- where it has none, it is not said
  pub not_said : number_in b at value ≡ None → (said : Option Said) → said ≡ Some (condition_at i at, value) → IsSaid (items_in i) s said → ⊥
  not_said none said says is = subst Found none (are.each at value conditional within) (subst (IsSaid (items_in i) s) says is)
