-- How rules are kept: with the numbers of branches and of sets of types.
use Rattle.std.specs.Prelude.{ℕ, List, Option, None, Some, slice_get}
use Rattle.cil_rules.specs.conditions.Branch.{Branch}
use Rattle.cil_rules.specs.Kept.{branch_named}
use Rattle.cil_rules.specs.Rule.{Rule, Target, Types, Itself}
use Rattle.cil_index.specs.declared.record.Record.{Record}
use Rattle.cil_index.specs.Sets.{set_of}

-- a set is reached, or where there is none the source itself
abbrev pub reached : Option (List ℕ) → Target
reached (Some set) = Types set
reached None = Itself

-- what the number of a target stands for
abbrev pub target_at : List (List ℕ) → ℕ → Target
target_at sets number = reached (slice_get sets number)

-- the rule that a record keeps
abbrev pub rule_of : List Branch → List (List ℕ) → Record → Rule
rule_of branches sets r =
    record { branch = branch_named branches r.branch; source = set_of sets r.source; target = target_at sets r.target; class = r.class; mask = r.mask }
