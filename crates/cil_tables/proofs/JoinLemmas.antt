-- The table of a policy by its parts.
use Rattle.std.specs.Prelude.{Contains}
use Rattle.std.proofs.Common.{◌≡◌, ℕ, List, refl, sym, subst}
use Rattle.cil_base.specs.Gives.{Gives}
use Rattle.cil_base.specs.Lists.{Lists, text_cmp}
use Rattle.cil_syntax.specs.declared.kind.Keyword.TheVariants as keywords
use Rattle.cil_syntax.specs.declared.kind.Kind.{Kind}
use Rattle.cil_syntax.specs.declared.kind.Kind.TheVariants as kinds
use Rattle.cil_names.specs.Declarations.{Declared}
use Rattle.cil_macros.specs.Item.{Item, OptSet}
use Rattle.cil_classes.specs.declared.row.Class.{Class}
use Rattle.cil_tables.specs.declared.tables.Alias.{Alias}
use Rattle.cil_tables.specs.declared.tables.Boolean.{Boolean}
use Rattle.cil_tables.specs.declared.tables.Link.{Link}
use Rattle.cil_tables.specs.Booleans.{is_default_on}
use Rattle.cil_neverallow.specs.index_crate.Sections.{RuleSections}
use Rattle.cil_tables.specs.Links.{IsLink}
use Rattle.cil_level_rows.specs.labels.LevelTable.{LevelTable}
use Rattle.cil_level_rows.specs.Rows.{IsLevelTable}
use Rattle.cil_tables.specs.Compiled.{AreConstraints, AreRules, IsTable}
use Rattle.cil_constraints.specs.declared.mask.Constraint.{Constraint}
use Rattle.cil_constraints.specs.declared.step.Part.{Part}
use Rattle.cil_constraints.specs.declared.step.Part.TheVariants as parts
use Rattle.cil_constraints.specs.Contexts.{kind_of}
use Rattle.cil_tables.proofs.ConstraintLemmas.{constraints_moved}
use Rattle.cil_tables.specs.Named.{IsNameOf}
use Rattle.cil_classes.specs.ClassRows.{IsRowOf}
use Rattle.cil_classes.specs.Row.{class_cmp}
use Rattle.cil_tables.specs.Aliases.{IsAlias}
use Rattle.cil_tables.specs.Table.{Table, alias_cmp, boolean_names, link_cmp, names_in}

-- the sections, as a table
module _ (xs : List Item) (s : OptSet) (names : Kind → List (List ℕ)) (users roles types : List (List ℕ)) (aliases : List Alias) (classes : List Class) (booleans : List Boolean) (user_roles role_types role_allows : List Link) (rules : RuleSections) (constraints : List Constraint) (levels : LevelTable) where
  -- the table, by these names
  abbrev made : Table
  made = record { levels = levels; users = names kinds.User; roles = names kinds.Role; types = names kinds.Type_; type_aliases = aliases; classes = classes; booleans = booleans; user_roles = user_roles; role_types = role_types; role_allows = role_allows; rules = rules; constraints = constraints }

  same_names : (part : Part) → names (kind_of part) ≡ names_in made (kind_of part)
  same_names parts.User = refl
  same_names parts.Role = refl
  same_names parts.Kind = refl

  pub table_of : users ≡ names kinds.User → roles ≡ names kinds.Role → types ≡ names kinds.Type_
      → Lists text_cmp (IsNameOf xs s kinds.User) (names kinds.User) → Lists text_cmp (IsNameOf xs s kinds.Role) (names kinds.Role) → Lists text_cmp (IsNameOf xs s kinds.Type_) (names kinds.Type_)
      → Lists text_cmp (IsNameOf xs s kinds.Boolean) (names kinds.Boolean) → boolean_names booleans ≡ names kinds.Boolean
      → ((b : Boolean) → Contains booleans b → b.default ≡ is_default_on xs s b.name)
      → Lists alias_cmp (IsAlias xs s (names kinds.Type_)) aliases
      → Gives class_cmp (Declared xs s kinds.Class) (IsRowOf xs) classes
      → Lists link_cmp (IsLink xs s keywords.UserRole kinds.User kinds.Role (names kinds.User) (names kinds.Role)) user_roles
      → Lists link_cmp (IsLink xs s keywords.RoleType kinds.Role kinds.Type_ (names kinds.Role) (names kinds.Type_)) role_types
      → Lists link_cmp (IsLink xs s keywords.RoleAllow kinds.Role kinds.Role (names kinds.Role) (names kinds.Role)) role_allows
      → AreRules xs s (names kinds.Type_) classes (names kinds.Boolean) rules
      → AreConstraints xs s names classes constraints
      → IsLevelTable xs s (names kinds.User) levels
      → IsTable xs s (record { levels = levels; users = users; roles = roles; types = types; type_aliases = aliases; classes = classes; booleans = booleans; user_roles = user_roles; role_types = role_types; role_allows = role_allows; rules = rules; constraints = constraints })
  table_of u r t us rs ts bs b ds of_aliases cs urs rts ras ru con lev =
      subst (λ (z : List (List ℕ)). IsTable xs s (record { levels = levels; users = z; roles = roles; types = types; type_aliases = aliases; classes = classes; booleans = booleans; user_roles = user_roles; role_types = role_types; role_allows = role_allows; rules = rules; constraints = constraints })) (sym u)
      (subst (λ (z : List (List ℕ)). IsTable xs s (record { levels = levels; users = names kinds.User; roles = z; types = types; type_aliases = aliases; classes = classes; booleans = booleans; user_roles = user_roles; role_types = role_types; role_allows = role_allows; rules = rules; constraints = constraints })) (sym r)
      (subst (λ (z : List (List ℕ)). IsTable xs s (record { levels = levels; users = names kinds.User; roles = names kinds.Role; types = z; type_aliases = aliases; classes = classes; booleans = booleans; user_roles = user_roles; role_types = role_types; role_allows = role_allows; rules = rules; constraints = constraints })) (sym t)
      (record {
        levels = lev;
        users = us;
        roles = rs;
        types = ts;
        type_aliases = of_aliases;
        classes = cs;
        booleans = record { names = subst (Lists text_cmp (IsNameOf xs s kinds.Boolean)) (sym b) bs; defaults = ds };
        user_roles = urs;
        role_types = rts;
        role_allows = ras;
        rules = subst (λ (z : List (List ℕ)). AreRules xs s (names kinds.Type_) classes z rules) (sym b) ru;
        constraints = constraints_moved xs s names (names_in made) same_names classes constraints con;
      })))
