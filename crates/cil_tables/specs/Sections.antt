-- The sections of a table that statements give. No other crate needs these words.
use Rattle.std.specs.Prelude.{ℕ, List, map}
use Rattle.cil_base.specs.Lists.{Lists}
use Rattle.cil_syntax.specs.declared.kind.Keyword.TheVariants as keywords
use Rattle.cil_syntax.specs.declared.kind.Kind.{Kind}
use Rattle.cil_syntax.specs.declared.kind.Kind.TheVariants as kinds
use Rattle.cil_macros.specs.Item.{Item, OptSet}
use Rattle.cil_classes.specs.declared.row.Class.{Class}
use Rattle.cil_base.specs.Records.{AreRecordsOf}
use Rattle.cil_syntax.specs.declared.kind.Keyword.{Keyword}
use Rattle.cil_neverallow.specs.conditions.Branch.{Branch}
use Rattle.cil_neverallow.specs.rules.NamedRule.{NamedRule}
use Rattle.cil_neverallow.specs.rules.Kept.{rule_named}
use Rattle.cil_neverallow.specs.rules.Records.{CaseBy, IsRuleOf, spelled}
use Rattle.cil_neverallow.specs.index_crate.NamedRules.{NamedRules}
use Rattle.cil_known.specs.declared.numbers.Sections.{Sections}
use Rattle.cil_level_rows.specs.labels.LevelTable.{LevelTable}
use Rattle.cil_tables.specs.declared.sections.Given.{Given}
use Rattle.cil_tables.specs.declared.tables.Boolean.{Boolean}
use Rattle.cil_tables.specs.Compiled.{AreConstraints, AreRules}
use Rattle.cil_tables.specs.Links.{IsLink}
use Rattle.cil_tables.specs.Aliases.{IsAlias}
use Rattle.cil_tables.specs.Table.{Table, alias_cmp, link_cmp}

-- the links, aliases, rules and constraints of enabled statements, by the sections of names and classes
pub record AreGiven (xs : List Item) (s : OptSet) (names : Kind → List (List ℕ)) (classes : List Class) (g : Given) : Type 0 where
  pub user_roles : Lists link_cmp (IsLink xs s keywords.UserRole kinds.User kinds.Role (names kinds.User) (names kinds.Role)) g.user_roles
  pub role_types : Lists link_cmp (IsLink xs s keywords.RoleType kinds.Role kinds.Type_ (names kinds.Role) (names kinds.Type_)) g.role_types
  pub role_allows : Lists link_cmp (IsLink xs s keywords.RoleAllow kinds.Role kinds.Role (names kinds.Role) (names kinds.Role)) g.role_allows
  pub type_aliases : Lists alias_cmp (IsAlias xs s (names kinds.Type_)) g.type_aliases.items
  pub rules : AreRules xs s (names kinds.Type_) classes (names kinds.Boolean) g.rules
  pub constraints : AreConstraints xs s names classes g.constraints.items

-- the rules of enabled statements with this first word, as they are handed on
abbrev pub AreNamedRulesOf : List Item → OptSet → List (List ℕ) → List Class → List (List ℕ) → List Branch → List (List ℕ) → Keyword → List NamedRule → Type 0
AreNamedRulesOf xs s types classes booleans branches sets keyword rules =
    AreRecordsOf (CaseBy xs s keyword (spelled booleans)) (IsRuleOf xs s types classes (spelled booleans)) xs (map (rule_named branches sets) rules)

-- and those of each kind
pub record AreNamedRules (xs : List Item) (s : OptSet) (types : List (List ℕ)) (classes : List Class) (booleans : List (List ℕ)) (branches : List Branch) (sets : List (List ℕ)) (r : NamedRules) : Type 0 where
  pub allow : AreNamedRulesOf xs s types classes booleans branches sets keywords.Allow r.allow.items
  pub auditallow : AreNamedRulesOf xs s types classes booleans branches sets keywords.AuditAllow r.auditallow.items
  pub dontaudit : AreNamedRulesOf xs s types classes booleans branches sets keywords.DontAudit r.dontaudit.items

-- the sections, as a table
abbrev pub table_from : Sections → List Class → List Boolean → Given → LevelTable → Table
table_from names classes booleans given levels = record {
  levels = levels;
  users = names.users.items;
  roles = names.roles.items;
  types = names.types.items;
  type_aliases = given.type_aliases.items;
  classes = classes;
  booleans = booleans;
  user_roles = given.user_roles;
  role_types = given.role_types;
  role_allows = given.role_allows;
  rules = given.rules;
  constraints = given.constraints.items;
}
