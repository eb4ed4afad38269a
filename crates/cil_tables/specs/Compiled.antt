-- The tables of a policy: each section is the list of a set of records, in its order. This project's profile.
use Rattle.std.specs.Prelude.{ℕ, List}
use Rattle.cil_base.specs.Gives.{Gives}
use Rattle.cil_base.specs.Lists.{Lists, text_cmp}
use Rattle.cil_syntax.specs.declared.kind.Keyword.TheVariants as keywords
use Rattle.cil_syntax.specs.declared.kind.Keyword.{Keyword}
use Rattle.cil_syntax.specs.declared.kind.Kind.TheVariants as kinds
use Rattle.cil_classes.specs.declared.row.Class.{Class}
use Rattle.cil_names.specs.Declarations.{Declared}
use Rattle.cil_macros.specs.Item.{Item, OptSet}
use Rattle.cil_tables.specs.Aliases.{IsAlias}
use Rattle.cil_tables.specs.Booleans.{AreBooleans}
use Rattle.cil_tables.specs.Named.{IsNameOf}
use Rattle.cil_neverallow.specs.index_crate.Sections.{RuleSections}
use Rattle.cil_tables.specs.Table.{Table, alias_cmp, boolean_names, link_cmp, names_in}
use Rattle.cil_syntax.specs.declared.kind.Kind.{Kind}
use Rattle.cil_constraints.specs.declared.mask.Constraint.{Constraint}
use Rattle.cil_constraints.specs.Compiled.{IsConstraintCase, IsConstraintOf}
use Rattle.cil_constraints.specs.Order.{constraint_cmp}
use Rattle.cil_classes.specs.Row.{class_cmp}
use Rattle.cil_neverallow.specs.rules.Order.{rule_cmp}
use Rattle.cil_neverallow.specs.rules.Rule.{Rule}
use Rattle.cil_classes.specs.ClassRows.{IsRowOf}
use Rattle.cil_tables.specs.Links.{IsLink}
use Rattle.cil_level_rows.specs.Rows.{IsLevelTable}
use Rattle.cil_neverallow.specs.rules.Records.{IsCase, IsRuleOf, spelled}

-- the rules of enabled statements with this first word, by the sections of types, classes and booleans
abbrev pub AreRulesOf : List Item → OptSet → List (List ℕ) → List Class → List (List ℕ) → Keyword → List Rule → Type 0
AreRulesOf xs s types classes booleans keyword rules =
    Gives rule_cmp (IsCase xs s keyword (spelled booleans)) (IsRuleOf xs s types classes (spelled booleans)) rules

-- and those of each kind
pub record AreRules (xs : List Item) (s : OptSet) (types : List (List ℕ)) (classes : List Class) (booleans : List (List ℕ)) (r : RuleSections) : Type 0 where
  pub allow : AreRulesOf xs s types classes booleans keywords.Allow r.allow
  pub auditallow : AreRulesOf xs s types classes booleans keywords.AuditAllow r.auditallow
  pub dontaudit : AreRulesOf xs s types classes booleans keywords.DontAudit r.dontaudit

-- the constraints of enabled statements, by the sections of names and of classes
abbrev pub AreConstraints : List Item → OptSet → (Kind → List (List ℕ)) → List Class → List Constraint → Type 0
AreConstraints xs s names classes constraints = Gives constraint_cmp (IsConstraintCase xs s) (IsConstraintOf xs s names classes) constraints

-- the tables of items, where these optionals are enabled
pub record IsTable (xs : List Item) (s : OptSet) (t : Table) : Type 0 where
  pub levels : IsLevelTable xs s t.users t.levels
  pub users : Lists text_cmp (IsNameOf xs s kinds.User) t.users
  pub roles : Lists text_cmp (IsNameOf xs s kinds.Role) t.roles
  pub types : Lists text_cmp (IsNameOf xs s kinds.Type_) t.types
  pub type_aliases : Lists alias_cmp (IsAlias xs s t.types) t.type_aliases
  pub classes : Gives class_cmp (Declared xs s kinds.Class) (IsRowOf xs) t.classes
  pub booleans : AreBooleans xs s t.booleans
  pub user_roles : Lists link_cmp (IsLink xs s keywords.UserRole kinds.User kinds.Role t.users t.roles) t.user_roles
  pub role_types : Lists link_cmp (IsLink xs s keywords.RoleType kinds.Role kinds.Type_ t.roles t.types) t.role_types
  pub role_allows : Lists link_cmp (IsLink xs s keywords.RoleAllow kinds.Role kinds.Role t.roles t.roles) t.role_allows
  pub rules : AreRules xs s t.types t.classes (boolean_names t.booleans) t.rules
  pub constraints : AreConstraints xs s (names_in t) t.classes t.constraints
