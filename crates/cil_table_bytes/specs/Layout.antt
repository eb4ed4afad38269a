-- The layout of tables: a header and 17 sections. Its bytes are what hosts compare, keep and exchange. This project's profile.
use Rattle.std.specs.Prelude.{◌≡◌, ℕ, Bool, List, [], ◌∷◌, length, Result, Ok, Err, ◌==◌, if◌then◌else◌}
use Rattle.cil_tables.specs.classes.Class.{Class}
use Rattle.cil_constraint_bytes.specs.constraints_crate.Constraint.{Constraint}
use Rattle.cil_rule_bytes.specs.index_crate.Sections.{RuleSections}
use Rattle.cil_tables.specs.declared.tables.Alias.{Alias}
use Rattle.cil_tables.specs.declared.tables.Boolean.{Boolean}
use Rattle.cil_tables.specs.declared.tables.Link.{Link}
use Rattle.cil_tables.specs.Table.{Table}
use Rattle.cil_format.specs.declared.fault.TableFault.{TableFault}
use Rattle.cil_format.specs.declared.fault.TableFault.TheVariants.{BadMagic, BadVersion, Trailing}
use Rattle.cil_format.specs.Fields.{below, small, this_byte}
use Rattle.cil_format.specs.Format.{◌>>=◌, Format, as_type, both, keyed, section}
use Rattle.cil_label_bytes.specs.Layout.{LabelNames, any_count, labels}
use Rattle.cil_rule_bytes.specs.Layout.{rule_sections}
use Rattle.cil_rule_bytes.specs.Layout as rules
use Rattle.cil_constraint_bytes.specs.Layout.{constraints}
use Rattle.cil_constraint_bytes.specs.Layout as constrained
use Rattle.cil_table_bytes.specs.Names.{roles, types, aliases, classes, widths_of, booleans, flag}

-- ---- header

-- the four bytes by which tables are known, judged one by one, then the number of the layout
abbrev pub Magic : Type 0
Magic = ℕ × (ℕ × (ℕ × (ℕ × ℕ)))

abbrev pub magic_bytes : Magic
magic_bytes = (67, (73, (76, (84, 1))))

unfoldable pub magic : Format Magic
magic =
    both (this_byte BadMagic 67) (λ a. both (this_byte BadMagic 73) (λ b. both (this_byte BadMagic 76) (λ c. both (this_byte BadMagic 84) (λ d.
    this_byte BadVersion 1))))

-- and whether contexts have levels
abbrev pub header : Format Bool
header = as_type (λ p. p.1) (λ on. (magic_bytes, on)) (both magic (λ m. flag))

-- ---- names

-- what sections 6 to 10 name
pub record Named : Type 0 where
  pub roles : List (List ℕ)
  pub types : List (List ℕ)
  pub type_aliases : List Alias
  pub classes : List Class
  pub booleans : List Boolean

abbrev pub NameParts : Type 0
NameParts = List (List ℕ) × (List (List ℕ) × (List Alias × (List Class × List Boolean)))

abbrev pub named_of : NameParts → Named
named_of p = record { roles = p.0; types = p.1.0; type_aliases = p.1.1.0; classes = p.1.1.1.0; booleans = p.1.1.1.1 }

abbrev pub name_parts : Named → NameParts
name_parts n = (n.roles, (n.types, (n.type_aliases, (n.classes, n.booleans))))

-- roles, types, their aliases, classes, booleans
unfoldable pub names : Format Named
names = as_type named_of name_parts (both roles (λ r. both types (λ t. both (aliases t) (λ a. both classes (λ c. booleans)))))

-- ---- links

abbrev pub link_of : ℕ × ℕ → Link
link_of p = record { holder = p.0; held = p.1 }

-- one of so many, and one of so many others
abbrev pub link : ℕ → ℕ → Format Link
link holders helds = as_type link_of (λ l. (l.holder, l.held)) (both (small holders) (λ h. small helds))

abbrev pub links : ℕ → ℕ → Format (List Link)
links holders helds = section below any_count (link holders helds)

-- what sections 11 to 13 link
pub record Linked : Type 0 where
  pub user_roles : List Link
  pub role_types : List Link
  pub role_allows : List Link

abbrev pub linked_of : List Link × (List Link × List Link) → Linked
linked_of p = record { user_roles = p.0; role_types = p.1.0; role_allows = p.1.1 }

abbrev pub link_parts : Linked → List Link × (List Link × List Link)
link_parts l = (l.user_roles, (l.role_types, l.role_allows))

-- of so many users, roles and types
unfoldable pub linked : ℕ → ℕ → ℕ → Format Linked
linked user_count role_count type_count =
    as_type linked_of link_parts (both (links user_count role_count) (λ u. both (links role_count type_count) (λ t. links role_count role_count)))

-- ---- rules and constraints, by what is named before them

abbrev pub rule_limits : Named → rules.Limits
rule_limits n = record { types = length n.types; booleans = length n.booleans; widths = widths_of n.classes }

abbrev pub constraint_limits : Bool → ℕ → Named → constrained.Limits
constraint_limits are_on user_count n =
    record { widths = widths_of n.classes; users = user_count; roles = length n.roles; types = length n.types; are_on = are_on }

-- ---- tables

abbrev pub Parts : Type 0
Parts = LabelNames × (Named × (Linked × (RuleSections × List Constraint)))

abbrev pub table_of : Parts → Table
table_of p = record {
  levels = p.0.levels;
  users = p.0.users;
  roles = p.1.0.roles;
  types = p.1.0.types;
  type_aliases = p.1.0.type_aliases;
  classes = p.1.0.classes;
  booleans = p.1.0.booleans;
  user_roles = p.1.1.0.user_roles;
  role_types = p.1.1.0.role_types;
  role_allows = p.1.1.0.role_allows;
  rules = p.1.1.1.0;
  constraints = p.1.1.1.1;
}

abbrev pub parts_of : Table → Parts
parts_of t = (
  record { levels = t.levels; users = t.users },
  (
    record { roles = t.roles; types = t.types; type_aliases = t.type_aliases; classes = t.classes; booleans = t.booleans },
    (record { user_roles = t.user_roles; role_types = t.role_types; role_allows = t.role_allows }, (t.rules, t.constraints)),
  ),
)

-- the rules and the constraints
abbrev pub ruled : Bool → ℕ → Named → Format (RuleSections × List Constraint)
ruled are_on user_count n = both (rule_sections (rule_limits n)) (λ r. constraints (constraint_limits are_on user_count n))

-- the sections behind the names
abbrev pub behind_names : Bool → ℕ → Named → Format (Linked × (RuleSections × List Constraint))
behind_names are_on user_count n = both (linked user_count (length n.roles) (length n.types)) (λ k. ruled are_on user_count n)

-- the 17 sections, where contexts have levels or not
unfoldable pub sections : Bool → Format Table
sections are_on = as_type table_of parts_of (both (labels are_on) (λ l. both names (behind_names are_on (length l.users))))

-- a table: the header, and its sections
abbrev pub table : Format Table
table = keyed (λ t. t.levels.are_on) header sections

-- a table that keeps all rules of the layout
pub record IsProper (t : Table) : Type 0 where
  pub fits : table.Fits t

-- its bytes
unfoldable pub layout : Table → List ℕ
layout = table.spell

-- all of the bytes: a table, or the first fault
unfoldable pub table_in : List ℕ → Result Table TableFault
table_in bytes = table.read bytes >>= λ t. if length t.1 == 0 then Ok t.0 else Err Trailing

-- the bytes are those of this table
abbrev pub IsCanonical : List ℕ → Table → Type 0
IsCanonical bytes t = IsProper t × (bytes ≡ layout t)
