-- The rules that an enabled statement adds, whatever its first word. No other crate needs these words.
use Rattle.std.specs.Prelude.{◌≡◌, ℕ, List, Option, true, false}
use Rattle.cil_conditions.specs.declared.branch.Branch.{Branch}
use Rattle.cil_syntax.specs.declared.kind.Keyword.{Keyword}
use Rattle.cil_syntax.specs.declared.kind.Kind.TheVariants as kinds
use Rattle.cil_macros.specs.Item.{Item, is_enabled}
use Rattle.cil_conditions.specs.known.DeclaredKnown.{Known}
use Rattle.cil_conditions.specs.known.Known.{enabled_in, row_in}
use Rattle.cil_classes.specs.names.Resolves.{is_mapping}
use Rattle.cil_classes.specs.declared.held.GivenPermissions.{GivenPermissions}
use Rattle.cil_classes.specs.declared.row.Class.{Class}
use Rattle.cil_rules.specs.declared.rule.NamedRule.{NamedRule}
use Rattle.cil_rules.specs.Behind.{AreBehind}
use Rattle.cil_rules.specs.ForNames.{ForNames}
use Rattle.cil_rules.specs.Kept.{branch_named, rule_named}
use Rattle.cil_rules.specs.Records.{Branching, CaseBy, IsPut, IsRuleOf, IsTaken}

-- those of its cases were put behind others, by what its words mean, where it is at this place
abbrev pub AddsRules : Known → List (List ℕ) → List Class → GivenPermissions → (place branch : ℕ) → Item → List (Option ℕ) → List NamedRule → List NamedRule → Type 0
AddsRules k types classes given place branch x words old new =
    (xs : List Item) (branches : List Branch) (keyword : Keyword) (how : Branching) → x.keyword ≡ keyword → is_mapping keyword ≡ false → is_enabled (enabled_in k) x ≡ true
    → IsTaken xs (enabled_in k) how x.branch → IsPut xs (enabled_in k) how x.branch (branch_named branches branch)
    → ForNames k xs types classes given (λ names. words ≡ row_in k x
    → AreBehind (CaseBy xs (enabled_in k) keyword how) (IsRuleOf xs (enabled_in k) (names kinds.Type_) classes how) (rule_named branches types) x place old new)
