-- What is known of the words of items and of the numbers of their symbols.
use Rattle.std.specs.Prelude.{◌≡◌, ℕ, nat_eq, true, List, [], get_or, slice_get, Some, ◌++◌, map, Option}
use Rattle.std.specs.Option.{option_map_or}
use Rattle.std.specs.Ordering.{nat_cmp}
use Rattle.std.specs.Global.{Vec}
use Rattle.cil_base.specs.Lists.{Lists}
use Rattle.cil_base.specs.declared.bytes.Bytes.{Bytes}
use Rattle.cil_names.specs.Declarations.{Symbol, name_of}
use Rattle.cil_syntax.specs.declared.kind.Kind.{Kind}
use Rattle.cil_syntax.specs.Kinds.{kind_number}
use Rattle.cil_syntax.specs.declared.term.Word.{Word}
use Rattle.cil_syntax.specs.Terms.{Term}
use Rattle.cil_names.specs.declared.entry.Entry.{Entry}
use Rattle.cil_names.specs.blocks.Space.{Space}
use Rattle.cil_names.specs.Entries.{AreEntries, is_declared_in, is_in}
use Rattle.cil_names.specs.macros.Item.{Item, OptSet, replaced}
use Rattle.cil_syntax.specs.Scopes.{ScopedWord}
use Rattle.cil_names.specs.Meanings.{meant}
use Rattle.cil_names.specs.PermissionWords.{meanings, value_of}
use Rattle.cil_names.specs.Resolves.{Wanted, wanted_in}
use Rattle.cil_known.specs.Numbers.{AreNumbers}
use Rattle.cil_names.specs.Symbols.{symbol_of}
use Rattle.cil_names.specs.blocks.Namespaces.{AreNamespaces}
use Rattle.cil_known.specs.declared.known.Known.{Known}
use Rattle.cil_known.specs.Members.{IsMember, StandsFor, space_of}
use Rattle.cil_known.specs.Spaces.{any_sets}
use Rattle.cil_names.specs.Unresolved.{ArePermissions}

-- the symbol has this number: its name stands there
abbrev pub IsNumbered : List (List ℕ) → Symbol → ℕ → Type 0
IsNumbered names t n = slice_get names n ≡ Some (name_of t)

-- what is known of the names of items: their namespaces, their declared names, the sections that number these, and the
-- permissions of their classes
pub record AreKnown (ss : List Space) (xs : List Item) (es : List Entry) (s : OptSet) (names : Kind → List (List ℕ)) (numbers : List ℕ) (lists : List (Vec Bytes)) : Type 0 where
  pub namespaces : AreNamespaces ss
  pub entries : AreEntries ss xs es
  pub numbered : AreNumbers ss es s names numbers
  pub permissions : ArePermissions ss es xs lists

-- the number of the one symbol for which a word stands
pub record IsNumberFor (xs : List Item) (s : OptSet) (kind : Kind) (names : List (List ℕ)) (w : ScopedWord) (n : ℕ) : Type 0 where
  pub symbol : Symbol
  pub stands : StandsFor xs s kind w symbol
  pub only_symbol : (t : Symbol) → StandsFor xs s kind w t → t ≡ symbol
  pub numbered : IsNumbered names symbol n
  pub only_number : (k : ℕ) → IsNumbered names symbol k → k ≡ n

-- the word stands for nothing of this kind
abbrev pub StandsForNothing : List Item → OptSet → Kind → ScopedWord → Type 0
StandsForNothing xs s kind w = (t : Symbol) → StandsFor xs s kind w t → ⊥

abbrev pub enabled_in : Known → OptSet
enabled_in k = is_in k.lookup.enabled.now

-- the items are those of which this is known, and these are the sections of their names
abbrev pub IsKnown : Known → List Item → (Kind → List (List ℕ)) → Type 0
IsKnown k xs names = AreKnown k.lookup.namespaces.now xs k.lookup.names.now (enabled_in k) names k.numbers.now k.permissions.now

-- what a word means
abbrev pub meant_in : Known → ScopedWord → Option ℕ
meant_in k w = meant k.lookup.namespaces.now k.lookup.names.now (enabled_in k) w

-- the number of a symbol of this kind for which the word stands
pub record HasNumberFor (xs : List Item) (s : OptSet) (kind : Kind) (names : List (List ℕ)) (w : ScopedWord) (n : ℕ) : Type 0 where
  pub symbol : Symbol
  pub stands : StandsFor xs s kind w symbol
  pub numbered : IsNumbered names symbol n

-- the number of an item that an alias or an attribute has
pub record IsMemberNumber (xs : List Item) (s : OptSet) (kind : Kind) (names : List (List ℕ)) (set : Symbol) (n : ℕ) : Type 0 where
  pub symbol : Symbol
  pub member : IsMember xs s kind set symbol
  pub numbered : IsNumbered names symbol n

-- the set that is kept for what a word means: an empty one for a word that means nothing
abbrev pub set_meant : List (List ℕ) → Option ℕ → List ℕ
set_meant sets meaning = option_map_or (λ d. get_or sets d []) meaning []

-- for each declared name the numbers of the symbols of a kind for which those words stand that mean it
abbrev pub AreStanding : Known → List Item → (Kind → List (List ℕ)) → Kind → List (List ℕ) → Type 0
AreStanding k xs names kind sets = (w : ScopedWord) → Lists nat_cmp (HasNumberFor xs (enabled_in k) kind (names kind) w) (set_meant sets (meant_in k w))

-- for each declared alias and attribute of a name space the numbers of the items that it has
abbrev pub HaveMembers : Known → List Item → (Kind → List (List ℕ)) → Kind → List (List ℕ) → Type 0
HaveMembers k xs names kind sets =
    (d : ℕ) (e : Entry) → slice_get k.lookup.names.now d ≡ Some e → is_declared_in (enabled_in k) e ≡ true → any_sets (space_of kind) (λ j. nat_eq (kind_number e.kind) (kind_number j.kind)) ≡ true
    → Lists nat_cmp (IsMemberNumber xs (enabled_in k) kind (names kind) (symbol_of k.lookup.namespaces.now e)) (get_or sets d [])

-- the value of something wanted
abbrev pub value_in : Known → Wanted → Option ℕ
value_in k w = value_of k.lookup.namespaces.now k.lookup.names.now k.permissions.now (enabled_in k) w

-- the values of all that an item asks for
abbrev pub row_in : Known → Item → List (Option ℕ)
row_in k x = meanings k.lookup.namespaces.now k.lookup.names.now k.permissions.now (enabled_in k) x

-- what a term asks for, where each word says this
abbrev pub wanted_with : (Word → ScopedWord) → Term Word → List Wanted
wanted_with f t = wanted_in (replaced (λ at. at) f t)

-- the values of that
abbrev pub meant_by : Known → (Word → ScopedWord) → Term Word → List (Option ℕ)
meant_by k f t = map (value_in k) (wanted_with f t)

-- the values begin with those of what a term asks for
pub record BeginWith (k : Known) (f : Word → ScopedWord) (t : Term Word) (words : List (Option ℕ)) : Type 0 where
  pub more : List (Option ℕ)
  pub are : words ≡ meant_by k f t ++ more
