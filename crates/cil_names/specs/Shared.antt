-- The permissions that classes share by commons, by the entries of both. CIL Reference Guide, "classcommon".
use Rattle.std.specs.Prelude.{◌≡◌, ◌<◌, ℕ, Bool, true, ◌&&◌, ◌||◌, ◌==◌, List, Contains, MatchOption, Option, Some, length, slice_get}
use Rattle.std.specs.List.{list_any}
use Rattle.std.specs.List.Sorted.{IsStrictlySortedBy}
use Rattle.std.specs.Global.{Vec}
use Rattle.cil_base.specs.Gives.{Gives}
use Rattle.cil_base.specs.Lists.{text_cmp}
use Rattle.cil_base.specs.declared.bytes.Bytes.{Bytes}
use Rattle.cil_syntax.specs.declared.kind.Sign.{Sign}
use Rattle.cil_syntax.specs.declared.kind.Sign.TheVariants as signs
use Rattle.cil_syntax.specs.Forms.{two_words}
use Rattle.cil_syntax.specs.Kinds.{is_wanted}
use Rattle.cil_syntax.specs.Scopes.{ScopedWord}
use Rattle.cil_syntax.specs.Spelling.{same_bytes}
use Rattle.cil_macros.specs.blocks.Space.{Space}
use Rattle.cil_macros.specs.Item.{Item, is_enabled, nobody}
use Rattle.cil_names.specs.Declarations.{Symbol}
use Rattle.cil_names.specs.declared.entry.Entry.{Entry}
use Rattle.cil_names.specs.declared.shared.Shared.{Shared}
use Rattle.cil_names.specs.Symbols.{symbol_of}
use Rattle.cil_names.specs.SharedOrder.{shared_cmp}
use Rattle.cil_names.specs.Resolves.{is_class_common, names_outside}
use Rattle.cil_names.specs.Unresolved.{listed_at}

-- ---- what statements share

-- a class and a common
pub record Pair : Type 0 where
  pub class_ : Symbol
  pub common : Symbol

-- a statement outside all optionals by which the class shares the permissions of the common
pub record Shares (xs : List Item) (x : Item) (k : Pair) : Type 0 where
  pub class_word : ScopedWord
  pub common_word : ScopedWord
  pub outside : is_enabled nobody x ≡ true
  pub keyword : is_class_common x.keyword ≡ true
  pub says : two_words x.args ≡ Some (class_word, common_word)
  pub names_class : names_outside xs signs.PlainClass class_word k.class_ ≡ true
  pub names_common : names_outside xs signs.Commons common_word k.common ≡ true

abbrev pub IsSharing : List Item → Pair → Type 0
IsSharing xs k = (x : Item) × Contains xs x × Shares xs x k

-- the entry of this number is of a wanted kind, and that of this symbol
pub record IsEntryOf (ss : List Space) (es : List Entry) (sign : Sign) (d : ℕ) (c : Symbol) : Type 0 where
  pub entry : Entry
  pub at : slice_get es d ≡ Some entry
  pub wanted : is_wanted sign entry.kind ≡ true
  pub symbol : symbol_of ss entry ≡ c

-- the numbers of the entries of the class and of the common
pub record IsPairOf (ss : List Space) (es : List Entry) (k : Pair) (h : Shared) : Type 0 where
  pub is_class : IsEntryOf ss es signs.PlainClass h.class k.class_
  pub is_common : IsEntryOf ss es signs.Commons h.common k.common

-- what statements share, rising, each pair once: each class and common that a statement joins, and no others
abbrev pub AreShared : List Space → List Entry → List Item → List Shared → Type 0
AreShared ss es xs shared = Gives shared_cmp (IsSharing xs) (IsPairOf ss es) shared

-- ---- look-up where no optional is enabled

-- the word names this entry, which is of a wanted kind
pub record IsEntryOutside (ss : List Space) (es : List Entry) (xs : List Item) (sign : Sign) (w : ScopedWord) (d : ℕ) : Type 0 where
  pub symbol : Symbol
  pub entry : IsEntryOf ss es sign d symbol
  pub named : names_outside xs sign w symbol ≡ true

-- what look-up of such a word answers: nothing where it names no symbol of a wanted kind
abbrev pub IsOutside : List Space → List Entry → List Item → Sign → ScopedWord → Option ℕ → Type 0
IsOutside ss es xs sign w r = MatchOption r ((c : Symbol) → names_outside xs sign w c ≡ true → ⊥) (IsEntryOutside ss es xs sign w)

-- ---- what is shared, in lists of permissions

abbrev pub lists_name : List (Vec Bytes) → ℕ → List ℕ → Bool
lists_name lists d p = list_any (same_bytes p) (listed_at lists d)

-- one of the commons of this class lists the name
abbrev pub shares_name : List (Vec Bytes) → List Shared → ℕ → List ℕ → Bool
shares_name lists shared d p = list_any (λ h. (h.class == d) && lists_name lists h.common p) shared

-- each class has what was listed for it, and for any of its commons
pub record HaveCommons (own : List (Vec Bytes)) (shared : List Shared) (all : List (Vec Bytes)) : Type 0 where
  pub len : length all ≡ length own
  pub rising : (v : Vec Bytes) → Contains all v → IsStrictlySortedBy text_cmp v.items
  pub each : (d : ℕ) (p : List ℕ) → lists_name all d p ≡ (lists_name own d p || shares_name own shared d p)

-- what is shared is among the lists, and no common is a class
pub record AreApart (count : ℕ) (shared : List Shared) : Type 0 where
  pub within : (h : Shared) → Contains shared h → (h.class < count) × (h.common < count)
  pub apart : (h g : Shared) → Contains shared h → Contains shared g → h.common ≡ g.class → ⊥

-- the permissions of one common were added to one class
pub record IsAddedTo (h : Shared) (old new : List (Vec Bytes)) : Type 0 where
  pub len : length new ≡ length old
  pub rising : ((v : Vec Bytes) → Contains old v → IsStrictlySortedBy text_cmp v.items) → (v : Vec Bytes) → Contains new v → IsStrictlySortedBy text_cmp v.items
  pub each : (d : ℕ) (p : List ℕ) → lists_name new d p ≡ (lists_name old d p || ((h.class == d) && lists_name old h.common p))
