-- The value of a policy's tables. This project's profile; what the sections hold is what The SELinux Notebook asks for in
-- "Security Context" and "Computing Access Decisions".
use Rattle.cil_base.specs.Paths.{both_equal, same_by}
use Rattle.std.specs.Prelude.{◌≡◌, ℕ, ◌≤◌, List, [], Contains, length, map}
use Rattle.std.specs.Cmp.{IsTotalOrder}
use Rattle.std.specs.Ordering.{nat_cmp, on, then_cmp}
use Rattle.std.specs.declared.cmp.Ordering.{Ordering}
use Rattle.std.specs.declared.cmp.Ordering.TheVariants.{Equal}
use Rattle.std.specs.List.Sorted.{IsStrictlySortedBy}
use Rattle.std.proofs.lemmas.Cmp.{then_total, on_total, nat_cmp_total, nat_list_cmp_total}
use Rattle.std.proofs.lemmas.Map.Lookups.{exact_bytes}
use Rattle.cil_base.specs.Lists.{text_cmp}
use Rattle.cil_classes.specs.declared.row.Class.{Class}
use Rattle.cil_tables.specs.declared.tables.Alias.{Alias}
use Rattle.cil_tables.specs.declared.tables.Link.{Link}
use Rattle.cil_tables.specs.declared.tables.Boolean.{Boolean}
use Rattle.cil_neverallow.specs.index_crate.Sections.{RuleSections}
use Rattle.cil_level_rows.specs.labels.LevelTable.{LevelTable}
use Rattle.cil_classes.specs.Row.{IsOrderlyClass, class_cmp}
use Rattle.cil_constraints.specs.declared.mask.Constraint.{Constraint}
use Rattle.cil_constraints.specs.Order.{constraint_cmp}
use Rattle.cil_syntax.specs.declared.kind.Kind.{Kind}
use Rattle.cil_syntax.specs.declared.kind.Kind.TheVariants as kinds

pub record Table : Type 0 where
  pub levels : LevelTable
  pub users : List (List ℕ)
  pub roles : List (List ℕ)
  pub types : List (List ℕ)
  pub type_aliases : List Alias
  pub classes : List Class
  pub booleans : List Boolean
  pub user_roles : List Link
  pub role_types : List Link
  pub role_allows : List Link
  pub rules : RuleSections
  pub constraints : List Constraint

-- the names by which users, roles and types have numbers
abbrev pub names_in : Table → Kind → List (List ℕ)
names_in t kinds.User = t.users
names_in t kinds.Role = t.roles
names_in t kinds.Type_ = t.types
names_in t kind = []

-- aliases stand in byte order of their names
abbrev pub alias_cmp : Alias → Alias → Ordering
alias_cmp = then_cmp (on (λ a. a.name) text_cmp) (on (λ a. a.target) nat_cmp)

-- any two aliases have an order
pub alias_total : IsTotalOrder alias_cmp
alias_total = then_total (on_total (λ a. a.name) nat_list_cmp_total) (on_total (λ a. a.target) nat_cmp_total)

pub same_alias : (a b : Alias) → a.name ≡ b.name → a.target ≡ b.target → a ≡ b
same_alias a b p q = λ i. record { name = p i; target = q i }

-- two aliases that tie are one
pub one_alias : (a b : Alias) → alias_cmp a b ≡ Equal → a ≡ b
one_alias a b e = let both = both_equal _ _ e in same_alias a b (exact_bytes _ _ both.0) (same_by _ _ both.1)

-- the names of booleans
abbrev pub boolean_names : List Boolean → List (List ℕ)
boolean_names = map (λ b. b.name)

-- how many booleans a policy may have
abbrev pub most_booleans : ℕ
most_booleans = 4096

-- links stand in the order of their holders, and of what these hold
abbrev pub link_cmp : Link → Link → Ordering
link_cmp = then_cmp (on (λ l. l.holder) nat_cmp) (on (λ l. l.held) nat_cmp)

-- any two links have an order
pub link_total : IsTotalOrder link_cmp
link_total = then_total (on_total (λ l. l.holder) nat_cmp_total) (on_total (λ l. l.held) nat_cmp_total)

pub same_ends : (a b : Link) → a.holder ≡ b.holder → a.held ≡ b.held → a ≡ b
same_ends a b p q = λ i. record { holder = p i; held = q i }

-- two links that tie are one
pub one_link : (a b : Link) → link_cmp a b ≡ Equal → a ≡ b
one_link a b e = let both = both_equal _ _ e in same_ends a b (same_by _ _ both.0) (same_by _ _ both.1)

-- what is true of every table: each list of names rises, so a name is found by halving, and has one number; so do links
pub record IsOrderly (t : Table) : Type 0 where
  pub users : IsStrictlySortedBy text_cmp t.users
  pub roles : IsStrictlySortedBy text_cmp t.roles
  pub types : IsStrictlySortedBy text_cmp t.types
  pub type_aliases : IsStrictlySortedBy alias_cmp t.type_aliases
  pub classes : IsStrictlySortedBy class_cmp t.classes
  pub booleans : IsStrictlySortedBy text_cmp (boolean_names t.booleans)
  pub few_booleans : length t.booleans ≤ most_booleans
  pub each_class : (c : Class) → Contains t.classes c → IsOrderlyClass c
  pub user_roles : IsStrictlySortedBy link_cmp t.user_roles
  pub role_types : IsStrictlySortedBy link_cmp t.role_types
  pub role_allows : IsStrictlySortedBy link_cmp t.role_allows
  pub constraints : IsStrictlySortedBy constraint_cmp t.constraints
