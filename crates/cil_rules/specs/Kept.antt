-- How rules are handed on: with the number of a declared name in place of the types for which it stands.
use Rattle.std.specs.Prelude.{ℕ, zero, suc, List, [], Option, None, get_or, slice_get}
use Rattle.cil_conditions.specs.declared.branch.Branch.{Branch}
use Rattle.cil_rules.specs.declared.rule.NamedRule.{NamedRule}
use Rattle.cil_rules.specs.declared.rule.Reach.{Reach}
use Rattle.cil_rules.specs.declared.rule.Reach.TheVariants as reaches
use Rattle.cil_rules.specs.Rule.{Rule, Target, Types, Itself}

-- the set of the declared name of this number
abbrev pub set_named : List (List ℕ) → ℕ → List ℕ
set_named sets number = get_or sets number []

-- what is reached, where these are the sets of the numbers
abbrev pub target_named : List (List ℕ) → Reach → Target
target_named sets (reaches.Types number) = Types (set_named sets number)
target_named sets reaches.Itself = Itself

-- the branch of a number: 0 for none, and from 1 on those of a list
abbrev pub branch_named : List Branch → ℕ → Option Branch
branch_named branches zero = None
branch_named branches (suc n) = slice_get branches n

-- the rule that is meant
abbrev pub rule_named : List Branch → List (List ℕ) → NamedRule → Rule
rule_named branches sets r =
    record { branch = branch_named branches r.branch; source = set_named sets r.source; target = target_named sets r.target; class = r.class; mask = r.mask }
