-- The rules of the statements of a policy, by rising place of their statement, and those of one statement by rising class. This project's
-- profile.
use Rattle.std.specs.Prelude.{◌≡◌, ◌<◌, ℕ, List, Contains, get_or}
use Rattle.std.specs.Ordering.{nat_cmp, on, then_cmp}
use Rattle.std.specs.declared.cmp.Ordering.{Ordering}
use Rattle.std.specs.List.Sorted.{IsStrictlySortedBy}
use Rattle.cil_macros.specs.Item.{Item}
use Rattle.cil_rules.specs.declared.rule.NamedRule.{NamedRule}
use Rattle.cil_rules.specs.declared.rule.Reach.TheVariants as reaches
use Rattle.cil_rules.specs.Rule.{Rule}

-- by the place of the statement, and then by class
abbrev pub place_cmp : NamedRule → NamedRule → Ordering
place_cmp = then_cmp (on (λ (r : NamedRule). r.instance) nat_cmp) (on (λ (r : NamedRule). r.class) nat_cmp)

-- the rules of the first n of some statements: each case of a statement has one at the place of the statement, and each is that of a case of
-- the statement at its place
pub record AreRulesOf {K : Type 0} (asked : Item → K → Type 0) (gives : K → Rule → Type 0) (named : NamedRule → Rule) (at : ℕ → Item) (n : ℕ) (rules : List NamedRule) : Type 0 where
  pub rising : IsStrictlySortedBy place_cmp rules
  pub each : (place : ℕ) (k : K) → place < n → asked (at place) k → (r : NamedRule) × Contains rules r × (r.instance ≡ place) × gives k (named r)
  pub only : (r : NamedRule) → Contains rules r → (r.instance < n) × ((k : K) × asked (at r.instance) k × gives k (named r))

-- the rule of a number
abbrev pub rule_at : List NamedRule → ℕ → NamedRule
rule_at rules number = get_or rules number (record { instance = 0; branch = 0; source = 0; target = reaches.Itself; class = 0; mask = 0 })
