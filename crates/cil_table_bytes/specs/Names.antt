-- The sections of names: roles, types and their aliases, classes, booleans. This project's profile.
use Rattle.std.specs.Prelude.{ℕ, ◌^◌, Bool, true, false, ◌&&◌, ◌==◌, nat_le, List, [], ◌∷◌, length, map}
use Rattle.std.specs.Int.{w8}
use Rattle.std.specs.List.{list_any}
use Rattle.cil_syntax.specs.Spelling.{same_bytes}
use Rattle.cil_tables.specs.classes.Class.{Class}
use Rattle.cil_tables.specs.declared.tables.Alias.{Alias}
use Rattle.cil_tables.specs.declared.tables.Boolean.{Boolean}
use Rattle.cil_format.specs.declared.fault.TableFault.TheVariants.{NotCanonical, OutOfRange}
use Rattle.cil_format.specs.Fields.{by_text, byte_below, small, texts_rise}
use Rattle.cil_format.specs.Format.{Format, as_type, both, checked, many, section, sized}
use Rattle.cil_label_bytes.specs.Layout.{any_count, new_name}
use Rattle.cil_label_bytes.specs.Names.{name, permission}

-- ---- roles

-- the role of objects
abbrev pub object_role : List ℕ
object_role = 111 ∷ 98 ∷ 106 ∷ 101 ∷ 99 ∷ 116 ∷ 95 ∷ 114 ∷ []

-- the role of objects is among these
abbrev pub has_object_role : List (List ℕ) → Bool
has_object_role = list_any (same_bytes object_role)

-- 4,096 at most; that the role of objects is there is judged at the end of the section
abbrev pub roles : Format (List (List ℕ))
roles = checked has_object_role OutOfRange (section by_text (λ n. nat_le n 4096) name)

-- ---- types

-- 65,535 at most
abbrev pub types : Format (List (List ℕ))
types = section by_text (λ n. nat_le n 65535) name

abbrev pub alias_of : List ℕ × ℕ → Alias
alias_of p = record { name = p.0; target = p.1 }

-- another name of one of these types, and named as none of them
abbrev pub alias : List (List ℕ) → Format Alias
alias names = as_type alias_of (λ a. (a.name, a.target)) (both (new_name names) (λ n. small (length names)))

abbrev pub aliases : List (List ℕ) → Format (List Alias)
aliases names = section by_text any_count (alias names)

-- ---- classes

-- 32 at most, rising; their order is judged at the end of the list
abbrev pub permissions : Format (List (List ℕ))
permissions = sized w8 (2 ^ 8) (λ n. nat_le n 32) (λ n. checked texts_rise NotCanonical (many permission n))

abbrev pub class_of : List ℕ × List (List ℕ) → Class
class_of p = record { name = p.0; permissions = p.1 }

abbrev pub class_row : Format Class
class_row = as_type class_of (λ c. (c.name, c.permissions)) (both name (λ n. permissions))

-- 1,024 at most
abbrev pub classes : Format (List Class)
classes = section by_text (λ n. nat_le n 1024) class_row

-- how many permissions each class has
abbrev pub widths_of : List Class → List ℕ
widths_of = map (λ c. length c.permissions)

-- ---- booleans

abbrev pub is_one : ℕ → Bool
is_one n = n == 1

abbrev pub byte_of : Bool → ℕ
byte_of true = 1
byte_of false = 0

-- a byte that is 0 or 1
abbrev pub flag : Format Bool
flag = as_type is_one byte_of (byte_below 2)

abbrev pub boolean_of : List ℕ × Bool → Boolean
boolean_of p = record { name = p.0; default = p.1 }

abbrev pub boolean : Format Boolean
boolean = as_type boolean_of (λ b. (b.name, b.default)) (both name (λ n. flag))

-- 4,096 at most
abbrev pub booleans : Format (List Boolean)
booleans = section by_text (λ n. nat_le n 4096) boolean
