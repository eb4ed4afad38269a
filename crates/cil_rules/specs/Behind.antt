-- The rules of one statement, put behind those of the statements before it. No other crate needs these words.
use Rattle.std.specs.Prelude.{◌≡◌, ◌++◌, ◌∷◌, [], ℕ, List, Contains, map}
use Rattle.std.specs.Ordering.{nat_cmp, on}
use Rattle.std.specs.List.Sorted.{IsStrictlySortedBy}
use Rattle.cil_base.specs.Records.{AreRecordsOf}
use Rattle.cil_classes.specs.declared.row.ClassId.{ClassId}
use Rattle.cil_rules.specs.declared.rule.NamedRule.{NamedRule}
use Rattle.cil_rules.specs.declared.rule.Reach.{Reach}
use Rattle.cil_rules.specs.Rule.{Rule}

-- the rules of the statement at a place were put behind others: each of its cases has one, and their classes rise
pub record AreBehind {X K : Type 0} (asked : X → K → Type 0) (gives : K → Rule → Type 0) (named : NamedRule → Rule) (x : X) (place : ℕ) (old new : List NamedRule) : Type 0 where
  pub rules : List NamedRule
  pub behind : new ≡ old ++ rules
  pub are : AreRecordsOf asked gives (x ∷ []) (map named rules)
  pub there : (r : NamedRule) → Contains rules r → r.instance ≡ place
  pub rising : IsStrictlySortedBy (on (λ (r : NamedRule). r.class) nat_cmp) rules

-- the rule of a mask, of the statement at a place, in this branch, from this source to what is reached
abbrev pub rule_with : (instance branch source : ℕ) → Reach → ClassId × ℕ → NamedRule
rule_with instance branch source target m = record { instance = instance; branch = branch; source = source; target = target; class = m.0.number; mask = m.1 }
