-- Rules as they are handed up one by one: with their branch and their sets where these are kept. This project's profile.
use denote.Ref.{Bor}
use Rattle.std.specs.Prelude.{ℕ, List, [], ◌∷◌, Option, None, Some}
use Rattle.cil_rules.specs.conditions.Branch.{Branch}
use Rattle.cil_rules.specs.Rule.{Rule, Target, Types, Itself}
use Rattle.cil_index.specs.declared.listed.ListedRule.{ListedRule}
use Rattle.cil_index.specs.declared.listed.ListedTarget.{ListedTarget}
use Rattle.cil_index.specs.declared.listed.ListedTarget.TheVariants as targets
use Rattle.cil_index.specs.declared.listed.TypeSet.{TypeSet}
use Rattle.cil_index.specs.declared.listed.TypeSet.TheVariants as sets

-- the types of a set
abbrev pub members_of : TypeSet → List ℕ
members_of sets.Empty = []
members_of (sets.One number) = number ∷ []
members_of (sets.Several set) = set.now

-- what is reached
abbrev pub target_listed : ListedTarget → Target
target_listed (targets.Types set) = Types (members_of set)
target_listed targets.Itself = Itself

-- the branch where it is kept
abbrev pub branch_listed : Option (Bor Branch) → Option Branch
branch_listed None = None
branch_listed (Some branch) = Some branch.now

-- the rule that is handed up
abbrev pub rule_listed : ListedRule → Rule
rule_listed r =
    record { branch = branch_listed r.branch; source = members_of r.source; target = target_listed r.target; class = r.class; mask = r.mask }
