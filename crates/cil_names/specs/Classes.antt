-- The class that a class word names, looked up once for all permissions behind it. No other crate needs these words.
use Rattle.std.specs.Prelude.{◌≡◌, ◌<◌, ℕ, Bool, true, false, List, [], MatchOption, None, Option, Some, length, slice_get}
use Rattle.std.specs.Global.{Vec}
use Rattle.std.specs.List.{list_any}
use Rattle.std.specs.Option.{option_map_or}
use Rattle.std.specs.List.Sorted.{IsStrictlySortedBy}
use Rattle.cil_base.specs.Lists.{text_cmp}
use Rattle.cil_base.specs.declared.bytes.Bytes.{Bytes}
use Rattle.cil_syntax.specs.Kinds.{is_wanted}
use Rattle.cil_syntax.specs.Scopes.{ScopedWord}
use Rattle.cil_syntax.specs.Spelling.{same_bytes}
use Rattle.cil_syntax.specs.declared.kind.Sign.TheVariants as signs
use Rattle.cil_macros.specs.blocks.Space.{Space}
use Rattle.cil_macros.specs.Item.{Item, nobody}
use Rattle.cil_names.specs.declared.entry.Entry.{Entry}
use Rattle.cil_names.specs.declared.permission_word.Class.{Class}
use Rattle.cil_names.specs.Entries.{AreEntries}
use Rattle.cil_names.specs.Meanings.{meant}
use Rattle.cil_names.specs.PermissionWords.{has_permission_at, listed_of}
use Rattle.cil_names.specs.Unresolved.{ArePermissions}

-- the entry of this number is that of a class or class map
abbrev pub is_class_at : List Entry → ℕ → Bool
is_class_at es d = option_map_or (λ (e : Entry). is_wanted signs.Classes e.kind) (slice_get es d) false

-- the word names this class where no optional is enabled, and these are the permissions that the class has. They have numbers
-- where the entry is that of a class or class map
pub record IsClassOf (ss : List Space) (es : List Entry) (lists : List (Vec Bytes)) (w : ScopedWord) (k : Class) : Type 0 where
  pub named : Some k.entry ≡ meant ss es nobody w
  pub within : k.entry < length es
  pub rising : IsStrictlySortedBy text_cmp k.permissions.now
  pub listed : (xs : List Item) → AreEntries ss xs es → ArePermissions ss es xs lists
      → (p : List ℕ) → list_any (same_bytes p) k.permissions.now ≡ has_permission_at ss es xs p k.entry
  pub numbered : k.has_numbers ≡ true → k.permissions.now ≡ listed_of es lists k.entry
  pub unnumbered : k.has_numbers ≡ false → listed_of es lists k.entry ≡ []

-- the class that the word names, or none where it names none
abbrev pub IsClassFor : List Space → List Entry → List (Vec Bytes) → ScopedWord → Option Class → Type 0
IsClassFor ss es lists w found = MatchOption found (None ≡ meant ss es nobody w) (IsClassOf ss es lists w)
