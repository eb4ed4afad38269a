-- The bytes of rules, part by part, for those who write them.
use Rattle.std.specs.Prelude.{ℕ, List, [], ◌∷◌, ◌++◌, Option, None, Some}
use Rattle.std.specs.Int.{w16, w32, to_be_bytes}
use Rattle.cil_conditions.specs.declared.branch.Branch.{Branch}
use Rattle.cil_conditions.specs.Order.{branch_tag}
use Rattle.cil_format.specs.Fields.{set}
use Rattle.cil_index.specs.rules.Rule.{Rule}
use Rattle.cil_rule_bytes.specs.Layout.{target, tokens_bytes}

abbrev pub branch_bytes : Option Branch → List ℕ
branch_bytes None = 0 ∷ []
branch_bytes (Some b) = branch_tag b.value ∷ tokens_bytes b.condition

-- how many types there are does not matter to the bytes of sets of types
abbrev pub rule_bytes : Rule → List ℕ
rule_bytes r = branch_bytes r.branch ++ ((set 0).spell r.source ++ ((target 0).spell r.target ++ (to_be_bytes w16 r.class ++ to_be_bytes w32 r.mask)))
