-- What the records of rules cover. The SELinux Notebook, "Computing Access Decisions".
use Rattle.std.specs.Prelude.{◌≡◌, ℕ, Bool, true, Contains, IsBitSet, List}
use Rattle.cil_conditions.specs.Active.{is_active}
use Rattle.cil_rules.specs.Rule.{Rule, Target, Types, Itself}

-- the target type is one that a rule reaches from the source type
abbrev pub Reaches : Target → ℕ → ℕ → Type 0
Reaches (Types numbers) source target = Contains numbers target
Reaches Itself source target = source ≡ target

-- the rule covers the permission, in whatever branch it is
pub record CoversInBranch (r : Rule) (source target class_ bit : ℕ) : Type 0 where
  pub has_source : Contains r.source source
  pub has_target : Reaches r.target source target
  pub of_class : r.class ≡ class_
  pub permits : IsBitSet r.mask bit

-- the rule covers the permission, where these booleans are on
pub record Covers (on : ℕ → Bool) (r : Rule) (source target class_ bit : ℕ) : Type 0 where
  pub active : is_active on r.branch ≡ true
  pub has_source : Contains r.source source
  pub has_target : Reaches r.target source target
  pub of_class : r.class ≡ class_
  pub permits : IsBitSet r.mask bit

-- some of the rules covers the permission
pub record HasCover (on : ℕ → Bool) (rules : List Rule) (source target class_ bit : ℕ) : Type 0 where
  pub rule : Rule
  pub is_rule : Contains rules rule
  pub covers : Covers on rule source target class_ bit
