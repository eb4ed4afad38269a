-- The faults of words that name nothing, as lists.
use Rattle.std.specs.Prelude.{◌≡◌, ℕ, Bool, true, false, ◌&&◌, not, if◌then◌else◌, List, [], ◌∷◌, Contains, Some, slice_get}
use Rattle.std.specs.Global.{Vec}
use Rattle.std.specs.List.{flat_map, list_any}
use Rattle.std.specs.List.Sorted.{IsStrictlySortedBy}
use Rattle.std.specs.Option.{option_map_or}
use Rattle.cil_base.specs.Lists.{text_cmp}
use Rattle.cil_faults.specs.declared.code.FaultCode.TheVariants as causes
use Rattle.cil_base.specs.declared.bytes.Bytes.{Bytes}
use Rattle.cil_faults.specs.declared.fault.Fault.{Fault}
use Rattle.cil_syntax.specs.declared.kind.Sign.TheVariants as signs
use Rattle.cil_syntax.specs.declared.term.Term as rust
use Rattle.cil_syntax.specs.declared.term.Word.{Word}
use Rattle.cil_syntax.specs.Said.{all_said, said_of}
use Rattle.cil_syntax.specs.Spelling.{same_bytes}
use Rattle.cil_syntax.specs.Terms.{Term, Terms}
use Rattle.cil_faults.specs.Reported.{fault_at}
use Rattle.cil_faults.specs.Namespaces.{Namespace}
use Rattle.cil_syntax.specs.Scopes.{ScopedWord}
use Rattle.cil_names.specs.declared.entry.Entry.{Entry}
use Rattle.cil_macros.specs.blocks.Space.{Space}
use Rattle.cil_macros.specs.Item.{Item, OptSet, all_replaced, replaced}
use Rattle.cil_names.specs.Symbols.{symbol_of}
use Rattle.cil_names.specs.Resolves.{Wanted, has_permission, is_judged, resolves, told_word, words_of}
use Rattle.cil_syntax.specs.Kinds.{is_wanted}

-- the terms of a statement of a module, each word as it takes part in a policy
abbrev pub term_with : (Word → ScopedWord) → ℕ → rust.Term → Term ScopedWord
term_with f m t = replaced (λ at. at) f (said_of m t)

abbrev pub terms_with : (Word → ScopedWord) → ℕ → List rust.Term → Terms ScopedWord
terms_with f m ts = all_replaced (λ at. at) f (all_said m ts)

-- the fault of a word of a statement in a namespace
abbrev pub fault_of_word : Namespace → ScopedWord → Fault
fault_of_word n w = fault_at causes.Unresolved w.at n w.bytes

-- where something is asked that is not there, its fault
unfoldable pub faults_of_wanted : List Item → OptSet → Namespace → Wanted → List Fault
faults_of_wanted xs s n w = if is_judged xs s w && not (resolves xs s w) then fault_of_word n (told_word w) ∷ [] else []

abbrev pub faults_of_all : List Item → OptSet → Namespace → List Wanted → List Fault
faults_of_all xs s n ws = flat_map (faults_of_wanted xs s n) ws

-- the faults of permissions that a class lacks
abbrev pub fault_unless_listed : List (List ℕ) → Namespace → ScopedWord → List Fault
fault_unless_listed permissions n w = if list_any (same_bytes w.bytes) permissions then [] else fault_of_word n w ∷ []

abbrev pub faults_unless_listed : List (List ℕ) → Namespace → List ScopedWord → List Fault
faults_unless_listed permissions n ws = flat_map (fault_unless_listed permissions n) ws

-- the faults of the words of an item, where it is in no optional
abbrev pub is_outside : List ℕ → Bool
is_outside [] = true
is_outside (o ∷ os) = false

abbrev pub faults_in : List Item → OptSet → Item → List Fault
faults_in xs s x = if is_outside x.round then faults_of_all xs s x.space (words_of x) else []

-- ---- permissions, by the entries of their classes

-- the permissions that are listed for an entry
abbrev pub listed_at : List (Vec Bytes) → ℕ → List (List ℕ)
listed_at lists d = option_map_or (λ (v : Vec Bytes). v.items) (slice_get lists d) []

-- for each entry of a class or a class map, these are its permissions
pub record ArePermissions (ss : List Space) (es : List Entry) (xs : List Item) (lists : List (Vec Bytes)) : Type 0 where
  pub rising : (v : Vec Bytes) → Contains lists v → IsStrictlySortedBy text_cmp v.items
  pub each : (d : ℕ) (e : Entry) → slice_get es d ≡ Some e → is_wanted signs.Classes e.kind ≡ true
      → (p : List ℕ) → list_any (same_bytes p) (listed_at lists d) ≡ has_permission xs (symbol_of ss e) p
