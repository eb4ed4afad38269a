-- What a permission word names: the class or class map of its class word, where that has the permission. CIL Reference
-- Guide, "Class and Permission Statements"; that classes do not hang on optionals is this project's profile.
use Rattle.std.specs.Prelude.{◌≡◌, ℕ, Bool, true, false, if◌then◌else◌, List, [], find, map, Option, MatchOption, slice_get}
use Rattle.std.specs.Global.{Vec}
use Rattle.std.specs.Option.{option_map, option_map_or}
use Rattle.cil_base.specs.declared.bytes.Bytes.{Bytes}
use Rattle.cil_names.specs.declared.entry.Entry.{Entry}
use Rattle.cil_macros.specs.blocks.Space.{Space}
use Rattle.cil_names.specs.Entries.{IsNamed, candidates_of, is_declared_at, listed, place_where}
use Rattle.cil_macros.specs.Item.{Item, OptSet, nobody}
use Rattle.cil_syntax.specs.Kinds.{is_wanted}
use Rattle.cil_syntax.specs.Scopes.{ScopedWord}
use Rattle.cil_syntax.specs.Spelling.{same_bytes}
use Rattle.cil_syntax.specs.declared.kind.Sign.TheVariants as signs
use Rattle.cil_names.specs.Meanings.{meant}
use Rattle.cil_names.specs.Symbols.{symbol_of}
use Rattle.cil_names.specs.Resolves.{Wanted, Word, Permission, has_permission, resolves, words_of}
use Rattle.cil_names.specs.Unresolved.{listed_at}

-- the entry of this number is that of a class with this permission
abbrev pub has_permission_at : List Space → List Entry → List Item → List ℕ → ℕ → Bool
has_permission_at ss es xs p d = option_map_or (λ e. has_permission xs (symbol_of ss e) p) (slice_get es d) false

-- the class of the class word, which is looked up where no optional is enabled, if it has the permission
abbrev pub class_with : List Space → List Entry → List Item → (class_ permission : ScopedWord) → Option ℕ
class_with ss es xs c p = find (has_permission_at ss es xs p.bytes) (listed (meant ss es nobody c))

-- the numbers of the entries that something wanted could name, whatever is enabled: for a permission word one at most
abbrev pub wanted_candidates : List Space → List Entry → List Item → Wanted → List ℕ
wanted_candidates ss es xs (Word w) = candidates_of ss es w
wanted_candidates ss es xs (Permission c p) = listed (class_with ss es xs c p)

-- what it means: the first entry that it could name and that is declared
abbrev pub wanted_meaning : List Space → List Entry → List Item → OptSet → Wanted → Option ℕ
wanted_meaning ss es xs s w = find (is_declared_at s es) (wanted_candidates ss es xs w)

-- ---- permissions by number

-- the number of a name among names: its place, if it is there
abbrev pub number_among : List (List ℕ) → List ℕ → Option ℕ
number_among names name = place_where (λ x. same_bytes x name) names

-- the permissions that are listed for an entry, if it is that of a class or class map
abbrev pub listed_of : List Entry → List (Vec Bytes) → ℕ → List (List ℕ)
listed_of es lists d = option_map_or (λ (e : Entry). if is_wanted signs.Classes e.kind then listed_at lists d else []) (slice_get es d) []

-- the permissions of the class that a class word names where no optional is enabled
abbrev pub listed_for : List Space → List Entry → List (Vec Bytes) → ScopedWord → List (List ℕ)
listed_for ss es lists c = option_map_or (listed_of es lists) (meant ss es nobody c) []

-- the number of a permission that its class has, among those of the class
abbrev pub number_with : List Space → List Entry → List Item → List (Vec Bytes) → (class_ permission : ScopedWord) → Option (Option ℕ)
number_with ss es xs lists c p = option_map (λ d. number_among (listed_for ss es lists c) p.bytes) (class_with ss es xs c p)

-- the value of a word is what it means; that of a permission word is the number of the permission among those of its class
abbrev pub value_of : List Space → List Entry → List (Vec Bytes) → OptSet → Wanted → Option ℕ
value_of ss es lists s (Word w) = meant ss es s w
value_of ss es lists s (Permission c p) = number_among (listed_for ss es lists c) p.bytes

-- the values of all that an item asks for, in order
abbrev pub meanings : List Space → List Entry → List (Vec Bytes) → OptSet → Item → List (Option ℕ)
meanings ss es lists s x = map (value_of ss es lists s) (words_of x)

-- a word names its entry; a permission word the class that its class word names, where that has the permission
abbrev pub IsNamedBy : List Space → List Item → List Entry → OptSet → Wanted → ℕ → Type 0
IsNamedBy ss xs es s (Word w) d = IsNamed ss xs es s w d
IsNamedBy ss xs es s (Permission c p) d = IsNamed ss xs es nobody c d × (has_permission_at ss es xs p.bytes d ≡ true)

-- what look-up answers for something wanted: nothing where it does not resolve, and else the one entry that it names
abbrev pub IsAnswerFor : List Space → List Item → List Entry → OptSet → Wanted → Option ℕ → Type 0
IsAnswerFor ss xs es s w r = MatchOption r (resolves xs s w ≡ false) (IsNamedBy ss xs es s w)
