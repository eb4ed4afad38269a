-- The rows from which the declared names are gathered: one for each declaration of each instance, and one for object_r.
-- No other crate needs these words.
use Rattle.std.specs.Prelude.{◌≡◌, ◌<◌, ◌⊎◌, ℕ, Bool, true, false, List, [], codes, length, map, Contains, Option, Some, None}
use Rattle.std.specs.List.{list_all}
use Rattle.cil_syntax.specs.declared.kind.Kind.TheVariants as kinds
use Rattle.cil_faults.specs.declared.spot.Spot.{Spot}
use Rattle.cil_syntax.specs.Forms.{BeginsWithName}
use Rattle.cil_syntax.specs.Table.{entry_of}
use Rattle.cil_syntax.specs.Terms.{Terms, nil, cons}
use Rattle.cil_blocks.specs.Namespaces.{IsNumber, space_at}
use Rattle.cil_macros.specs.declared.listed.Part as kept
use Rattle.cil_macros.specs.Item.{OptSet}
use Rattle.cil_macros.specs.Items.{Kept, item_at, items_in, namespaces_in}
use Rattle.cil_macros.specs.Listed.{Part, closes, opens, part_there, text, word}
use Rattle.cil_macros.specs.Placed.{Placed}
use Rattle.cil_declare.specs.declared.row.Row.{Row}
use Rattle.cil_names.specs.Declarations.{Bare, Declaration, content_of, declared_by, nowhere}
use Rattle.cil_names.specs.Entries.{Key}
use Rattle.cil_syntax.specs.declared.name_space.NameSpace.TheVariants as name_spaces
use Rattle.cil_syntax.specs.NameSpaces.{name_space, rank}

-- ---- what a row declares

abbrev pub behind : {L : Type 0} → Terms L → Terms L
behind nil = nil
behind (cons t rest) = rest

-- what the instance at a place says behind the declared name
abbrev pub content_at : Kept → Option ℕ → Terms Bare
content_at i None = nil
content_at i (Some k) = content_of (behind (item_at i k).args)

abbrev pub declaration_of : Kept → Row → Declaration
declaration_of i r = record { kind = r.kind; space = space_at (namespaces_in i) r.space; name = r.name; content = content_at i r.at }

-- ---- rows

-- the row of the role that every policy has
abbrev pub object_row : Row
object_row = record { space = 0; name = codes "object_r"; kind = kinds.Role; at = None }

-- the row is that of a declaration of the instance at a place
pub record IsRowAt (i : Kept) (k : ℕ) (r : Row) : Type 0 where
  pub at : r.at ≡ Some k
  pub within : k < length (items_in i)
  pub space : IsNumber (namespaces_in i) (item_at i k).space r.space
  pub spot : Spot
  pub named : BeginsWithName (item_at i k).args spot r.name
  pub kind : Contains (entry_of (item_at i k).keyword).declares r.kind

-- the row is that of object_r, or that of a declaration of an instance
abbrev pub IsRow : Kept → Row → Type 0
IsRow i r = (r ≡ object_row) ⊎ ((k : ℕ) × IsRowAt i k r)

abbrev pub AreRowsIn : Kept → List Row → Type 0
AreRowsIn i rows = (r : Row) → Contains rows r → IsRow i r

-- the rows are that of object_r, and those of the declarations of the first so many instances
pub record AreRowsUpTo (i : Kept) (n : ℕ) (rows : List Row) : Type 0 where
  pub object : Contains rows object_row
  pub each : AreRowsIn i rows
  pub all : (k : ℕ) → k < n → (d : Declaration) → Contains (declared_by (item_at i k)) d → (r : Row) × Contains rows r × IsRowAt i k r × (declaration_of i r ≡ d)

-- the rows of all instances
abbrev pub AreAllRows : Kept → List Row → Type 0
AreAllRows i rows = AreRowsUpTo i (length (items_in i)) rows

-- rows with one key are of one name space, and have one name in one namespace
abbrev pub row_key : Row → Key
row_key r = record { space = r.space; name = r.name; rank = rank r.kind }

-- the optionals round the instance at a place
abbrev pub round_at : Kept → Option ℕ → List ℕ
round_at i None = []
round_at i (Some k) = (item_at i k).round

abbrev pub is_row_enabled : Kept → OptSet → Row → Bool
is_row_enabled i s r = list_all s (round_at i r.at)

-- ---- rows of one key

-- two declarations of one key are one, or are of blocks or macros, which are told apart a step before
abbrev pub AreAlike : Declaration → Declaration → Type 0
AreAlike d e = (name_space d.kind ≡ name_spaces.Blocks) ⊎ (d ≡ e)

-- some of these rows differs from the first, or none does
abbrev pub TellsDiffering : Kept → Row → List Row → Bool → Type 0
TellsDiffering i first rows true = (r : Row) × Contains rows r × (AreAlike (declaration_of i first) (declaration_of i r) → ⊥)
TellsDiffering i first rows false = (r : Row) → Contains rows r → AreAlike (declaration_of i first) (declaration_of i r)

-- ---- contents, as they are compared

-- a part of what is said, at no place
abbrev pub unplaced : Part → Part
unplaced (word w) = word (record { at = nowhere; bytes = w.bytes; sign = w.sign; scope = w.scope })
unplaced (text at bytes) = text nowhere bytes
unplaced (opens at op) = opens nowhere op
unplaced closes = closes

-- the same of a part that is kept
abbrev pub bare_part : List Placed → kept.Part → Part
bare_part ps x = unplaced (part_there ps x)

abbrev pub bare_parts : List Placed → List kept.Part → List Part
bare_parts ps xs = map (bare_part ps) xs

-- what the instance at a place says begins with a name
pub record IsNamed (i : Kept) (k : ℕ) : Type 0 where
  pub within : k < length (items_in i)
  pub spot : Spot
  pub name : List ℕ
  pub begins : BeginsWithName (item_at i k).args spot name
