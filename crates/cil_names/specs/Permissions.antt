-- The permissions of classes and commons: what statements list for each. No other crate needs these words.
use Rattle.std.specs.Prelude.{◌≡◌, ◌∷◌, ◌++◌, ℕ, Bool, true, false, List, [], Contains, Option, Some, None, length, set, slice_get}
use Rattle.std.specs.List.{list_any}
use Rattle.std.specs.List.Sorted.{IsStrictlySortedBy}
use Rattle.std.specs.Global.{Vec}
use Rattle.cil_base.specs.Lists.{Lists, text_cmp}
use Rattle.cil_base.specs.declared.bytes.Bytes.{Bytes}
use Rattle.cil_syntax.specs.declared.kind.Keyword.{Keyword}
use Rattle.cil_syntax.specs.declared.kind.Keyword.TheVariants as keywords
use Rattle.cil_syntax.specs.declared.kind.Sign.{Sign}
use Rattle.cil_syntax.specs.declared.kind.Sign.TheVariants as signs
use Rattle.cil_syntax.specs.declared.program.Statement.{Statement}
use Rattle.cil_syntax.specs.declared.term.Term as rust
use Rattle.cil_syntax.specs.declared.term.Word.{Word}
use Rattle.cil_syntax.specs.Kinds.{is_wanted}
use Rattle.cil_syntax.specs.Forms.{listed_behind_name}
use Rattle.cil_syntax.specs.Said.{all_said, args_of}
use Rattle.cil_macros.specs.blocks.Space.{Space}
use Rattle.cil_macros.specs.blocks.Namespaces.{AreNamespaces, IsNumber}
use Rattle.cil_names.specs.declared.entry.Entry.{Entry}
use Rattle.cil_names.specs.declared.permissions.Listing.{Listing}
use Rattle.cil_names.specs.Entries.{AreOrdered, IsEntryAt}
use Rattle.cil_names.specs.Symbols.{symbol_of}
use Rattle.cil_faults.specs.declared.spot.Spot.{Spot}
use Rattle.cil_syntax.specs.Scopes.{ScopedWord}
use Rattle.cil_syntax.specs.Terms.{Name, Terms, cons}
use Rattle.cil_syntax.specs.Spelling.{same_bytes}
use Rattle.cil_macros.specs.blocks.Entries.{statement_at}
use Rattle.cil_macros.specs.Item.{Item, all_replaced, names_in}
use Rattle.cil_macros.specs.Items.{Kept, item_at, namespaces_in, word_at}
use Rattle.cil_macros.specs.Walks.{written_in}
use Rattle.cil_names.specs.Resolves.{listed_permissions, lists_permission}
use Rattle.cil_names.specs.Unresolved.{listed_at}

-- how words may name what a statement of this keyword declares with a list of permissions
abbrev pub list_sign : Keyword → Option Sign
list_sign keywords.Class = Some signs.Classes
list_sign keywords.ClassMap = Some signs.Classes
list_sign keywords.Common = Some signs.Commons
list_sign k = None

-- words of this sign name what has a list of permissions
abbrev pub has_list : Sign → Bool
has_list signs.Classes = true
has_list signs.Commons = true
has_list sign = false

-- a statement declares what has a list of permissions under this name, which is written here
pub record SaysList (s : Statement) (sign : Sign) (at : Spot) (name : List ℕ) : Type 0 where
  pub keyword : list_sign s.keyword ≡ Some sign
  pub rest : Terms Word
  pub says : args_of s ≡ cons (Name at name) rest

abbrev pub SaysNoList : Statement → Type 0
SaysNoList s = (sign : Sign) (at : Spot) (name : List ℕ) → SaysList s sign at name → ⊥

-- an item that is in no optional declares what has a list of permissions under this name
pub record DeclaresList (x : Item) (sign : Sign) (name : List ℕ) : Type 0 where
  pub outside : x.round ≡ []
  pub keyword : list_sign x.keyword ≡ Some sign
  pub at : Spot
  pub rest : Terms ScopedWord
  pub says : x.args ≡ cons (Name at name) rest

abbrev pub DeclaresNoList : Item → Type 0
DeclaresNoList x = (sign : Sign) (name : List ℕ) → DeclaresList x sign name → ⊥

-- for each entry of a class, a class map or a common, these are the permissions that it lists itself
pub record AreOwn (ss : List Space) (es : List Entry) (xs : List Item) (lists : List (Vec Bytes)) : Type 0 where
  pub rising : (v : Vec Bytes) → Contains lists v → IsStrictlySortedBy text_cmp v.items
  pub each : (sign : Sign) → has_list sign ≡ true → (d : ℕ) (e : Entry) → slice_get es d ≡ Some e → is_wanted sign e.kind ≡ true
      → (p : List ℕ) → list_any (same_bytes p) (listed_at lists d) ≡ lists_permission xs sign (symbol_of ss e) p

-- no permission is listed yet
pub record AreEmpty {X : Type 0} (es : List X) (lists : List (Vec Bytes)) : Type 0 where
  pub len : length lists ≡ length es
  pub each : (v : Vec Bytes) → Contains lists v → v.items ≡ []

-- what the statement of a number lists behind its name
abbrev pub listed_by : Kept → ℕ → List (List ℕ)
listed_by i k = listed_permissions (statement_at (written_in i.0) k).statement.args

-- the lists have what the statements list whose permissions were added last
abbrev pub AreListed : Kept → List (Option ℕ) → List (Vec Bytes) → Type 0
AreListed i last lists = (d k : ℕ) → slice_get last d ≡ Some (Some k) → (p : List ℕ) → list_any (same_bytes p) (listed_by i k) ≡ true → list_any (same_bytes p) (listed_at lists d) ≡ true

-- the statement at a place adds nothing to what is listed
abbrev pub ListsNothing : Kept → List Entry → ℕ → Type 0
ListsNothing i es at = (xs : List Item) (lists : List (Vec Bytes)) → AreOrdered (namespaces_in i) es → AreOwn (namespaces_in i) es xs lists → AreOwn (namespaces_in i) es (xs ++ item_at i at ∷ []) lists

-- the statement at a place lists these terms for this entry, under a name that it declares
pub record IsListing (i : Kept) (es : List Entry) (at : ℕ) (l : Listing) : Type 0 where
  pub spaces : AreNamespaces (namespaces_in i)
  pub sign : Sign
  pub name : List ℕ
  pub declares : DeclaresList (item_at i at) sign name
  pub space : ℕ
  pub numbered : IsNumber (namespaces_in i) (item_at i at).space space
  pub entry : IsEntryAt es name sign space l.class
  pub args : Terms Word
  pub says : (item_at i at).args ≡ all_replaced (λ bt. bt) (word_at i at) args
  pub in_module : ℕ
  pub listed : listed_behind_name args ≡ Some (all_said in_module l.items.now)
  pub of_statement : listed_permissions (item_at i at).args ≡ listed_by i l.statement

-- the names among these terms are added to the list of this number
pub record AreAdded (class_ : ℕ) (items : List rust.Term) (old new : List (Vec Bytes)) : Type 0 where
  pub before : Vec Bytes
  pub none_yet : Vec Bytes
  pub after : Vec Bytes
  pub was : slice_get old class_ ≡ Some before
  pub all : (m : ℕ) → Lists text_cmp (Contains (before.items ++ names_in (all_said m items))) after.items
  pub is : new ≡ set (set old class_ none_yet) class_ after
