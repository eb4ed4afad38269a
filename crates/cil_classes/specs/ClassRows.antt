-- The rows of the classes, by the entries of their names. No other crate needs these words.
use Rattle.std.specs.Prelude.{◌≡◌, ◌<◌, ℕ, true, List, map, Some, get_or, slice_get, Contains}
use Rattle.std.specs.Global.{Vec}
use Rattle.cil_base.specs.declared.bytes.Bytes.{Bytes}
use Rattle.cil_syntax.specs.declared.kind.Kind.TheVariants as kinds
use Rattle.cil_names.specs.declared.entry.Entry.{Entry}
use Rattle.cil_macros.specs.blocks.Space.{Space}
use Rattle.cil_macros.specs.Item.{OptSet, Item}
use Rattle.cil_known.specs.Numbers.{spelled_of}
use Rattle.cil_names.specs.Symbols.{is_of}
use Rattle.cil_names.specs.Unresolved.{listed_at}
use Rattle.cil_classes.specs.declared.row.Class.{Class}
use Rattle.cil_base.specs.Lists.{Lists, text_cmp}
use Rattle.cil_names.specs.Declarations.{Symbol, name_of, Declared}
use Rattle.cil_names.specs.Resolves.{has_permission}

-- at the number of each class among the first entries stands its entry
abbrev pub AreClassEntries : List Entry → OptSet → List ℕ → ℕ → List ℕ → Type 0
AreClassEntries es s numbers n places =
    (d : ℕ) (e : Entry) → d < n → slice_get es d ≡ Some e → is_of s kinds.Class e ≡ true → slice_get places (get_or numbers d 0) ≡ Some d

-- the rows have these names, and list what is listed for the entries at these places
pub record AreListed (names : List (List ℕ)) (places : List ℕ) (lists : List (Vec Bytes)) (rows : List Class) : Type 0 where
  pub named : map (λ row. row.name) rows ≡ names
  pub each : (n : ℕ) (row : Class) → slice_get rows n ≡ Some row → row.permissions ≡ listed_at lists (get_or places n 0)

-- the row is that of an entry of a class
pub record IsRowOfEntry (ss : List Space) (es : List Entry) (s : OptSet) (lists : List (Vec Bytes)) (row : Class) : Type 0 where
  pub number : ℕ
  pub entry : Entry
  pub at : slice_get es number ≡ Some entry
  pub is_class : is_of s kinds.Class entry ≡ true
  pub spelled : spelled_of ss entry ≡ row.name
  pub listed : row.permissions ≡ listed_at lists number

-- the rows are those of the entries of the classes, in the order of their names
pub record AreRowsOf (ss : List Space) (es : List Entry) (s : OptSet) (lists : List (Vec Bytes)) (names : List (List ℕ)) (rows : List Class) : Type 0 where
  pub named : map (λ row. row.name) rows ≡ names
  pub each : (n : ℕ) (row : Class) → slice_get rows n ≡ Some row → IsRowOfEntry ss es s lists row

-- the row of a class: its name, and its permissions in byte order
pub record IsRowOf (xs : List Item) (c : Symbol) (row : Class) : Type 0 where
  pub named : row.name ≡ name_of c
  pub permissions : Lists text_cmp (λ p. has_permission xs c p ≡ true) row.permissions

-- the rows of the classes stand at the numbers of their names, and list the permissions of the classes of these names
pub record AreClasses (xs : List Item) (s : OptSet) (names : List (List ℕ)) (rows : List Class) : Type 0 where
  pub named : map (λ row. row.name) rows ≡ names
  pub each : (row : Class) (c : Symbol) → Contains rows row → Declared xs s kinds.Class c → row.name ≡ name_of c → Lists text_cmp (λ p. has_permission xs c p ≡ true) row.permissions
