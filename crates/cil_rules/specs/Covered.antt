-- Which rules of a policy cover a permission. The SELinux Notebook, "Computing Access Decisions"; CIL Reference Guide, "allow",
-- "booleanif".
use Rattle.std.specs.Prelude.{ℕ, List}
use Rattle.cil_syntax.specs.declared.kind.Keyword.{Keyword}
use Rattle.cil_macros.specs.Item.{Item, OptSet}
use Rattle.cil_classes.specs.names.Declarations.{Symbol}
use Rattle.cil_conditions.specs.Conditions.{IsChosen, Settings}
use Rattle.cil_rules.specs.CoveredBy.{IsCoveredBy}

-- some enabled rule with this first word covers the permission, and counts by these settings
pub record IsCovered (xs : List Item) (s : OptSet) (v : Settings) (keyword : Keyword) (source target class_ : Symbol) (permission : List ℕ) : Type 0 where
  pub item : Item
  pub covers : IsCoveredBy xs s keyword item source target class_ permission
  pub chosen : IsChosen xs s v item.branch
