-- What rules hand on, to be numbered: their branches, and two sets each. No other crate needs these words.
use Rattle.std.specs.Prelude.{◌≡◌, ℕ, suc, List, [], ◌∷◌, ◌++◌, Option, None, Some, get_or, length, map}
use Rattle.std.specs.List.{flat_map}
use Rattle.std.specs.List.Sorted.{IsStrictlySortedBy}
use Rattle.cil_conditions.specs.declared.branch.Branch.{Branch}
use Rattle.cil_index.specs.declared.section.NamedRules.{NamedRules}
use Rattle.cil_index.specs.Sections.{RuleSections}
use Rattle.cil_index.specs.rules.NamedRule.{NamedRule}
use Rattle.cil_index.specs.rules.Kept.{rule_named}
use Rattle.cil_index.specs.rules.Order.{rule_cmp}
use Rattle.cil_index.specs.rules.Rule.{Rule}
use Rattle.cil_rule_bytes.specs.Layout.{types_of}

-- the branch, if there is one
abbrev pub listed_branch : Option Branch → List Branch
listed_branch None = []
listed_branch (Some b) = b ∷ []

abbrev pub branches_in : Rule → List Branch
branches_in r = listed_branch r.branch

abbrev pub all_branches : RuleSections → List Branch
all_branches s = flat_map branches_in s.allow ++ (flat_map branches_in s.auditallow ++ flat_map branches_in s.dontaudit)

-- the source, and the types that are reached
abbrev pub sets_in : Rule → List (List ℕ)
sets_in r = r.source ∷ types_of r.target ∷ []

abbrev pub all_sets : RuleSections → List (List ℕ)
all_sets s = flat_map sets_in s.allow ++ (flat_map sets_in s.auditallow ++ flat_map sets_in s.dontaudit)

-- the rule is meant, where its source is the set of this number, and what it reaches that of the next
abbrev pub IsNamed : List Branch → Rule → ℕ → NamedRule → Type 0
IsNamed rows rule number named = (sets : List (List ℕ)) → get_or sets number [] ≡ rule.source → get_or sets (suc number) [] ≡ types_of rule.target → rule_named rows sets named ≡ rule

-- these rules are meant, where their sets stand behind so many others
abbrev pub AreNamed : List Branch → List Rule → ℕ → List Rule → List NamedRule → Type 0
AreNamed rows all first rules named =
    (front back : List (List ℕ)) → length front ≡ first → map (rule_named rows (front ++ (flat_map sets_in all ++ back))) named ≡ rules

-- the rules of each kind are meant, by all sets
pub record AreAllNamed (rows : List Branch) (s : RuleSections) (named : NamedRules) : Type 0 where
  pub allow : map (rule_named rows (all_sets s)) named.allow.items ≡ s.allow
  pub auditallow : map (rule_named rows (all_sets s)) named.auditallow.items ≡ s.auditallow
  pub dontaudit : map (rule_named rows (all_sets s)) named.dontaudit.items ≡ s.dontaudit

-- the rules of each kind rise
pub record AreRising (s : RuleSections) : Type 0 where
  pub allow : IsStrictlySortedBy rule_cmp s.allow
  pub auditallow : IsStrictlySortedBy rule_cmp s.auditallow
  pub dontaudit : IsStrictlySortedBy rule_cmp s.dontaudit
