-- What statements ask for and do not get, by the table of what all instances ask for. No other crate needs these words.
use Rattle.std.specs.Prelude.{◌≡◌, ◌+◌, ℕ, Bool, if◌then◌else◌, List, [], ◌∷◌, Some, get_or, map, slice_get}
use Rattle.std.specs.List.{list_any}
use Rattle.cil_faults.specs.Namespaces.{Namespace}
use Rattle.cil_faults.specs.declared.fault.Fault.{Fault}
use Rattle.cil_blocks.specs.Namespaces.{AreNamespaces}
use Rattle.cil_macros.specs.declared.placed_word.PlacedWord.{PlacedWord}
use Rattle.cil_macros.specs.Item.{Item, OptSet}
use Rattle.cil_macros.specs.Items.{item_at, items_in, namespaces_in, scoped_by}
use Rattle.cil_macros.specs.Placed.{Placed}
use Rattle.cil_names.specs.declared.entry.Entry.{Entry}
use Rattle.cil_names.specs.Entries.{AreEntries, is_declared_in, is_in}
use Rattle.cil_names.specs.PermissionWords.{wanted_candidates}
use Rattle.cil_names.specs.Resolves.{Permission, Wanted, Word, words_of}
use Rattle.cil_names.specs.Unresolved.{faults_of_all}
use Rattle.cil_syntax.specs.Scopes.{ScopedWord}
use Rattle.cil_words.specs.declared.judge.Judge.{Judge}
use Rattle.cil_words.specs.Table.{AreAsks, could_in}

abbrev pub items_by : Judge → List Item
items_by j = items_in j.instances.now

-- the namespace of the statement at a place
abbrev pub space_by : Judge → ℕ → Namespace
space_by j at = (item_at j.instances.now at).space

-- what the statement at a place asks for
abbrev pub row_by : Judge → ℕ → List (List ℕ)
row_by j at = get_or (could_in j.asks.now) at []

-- these are the declared names, and the flags tell which of them are declared where these optionals are enabled
pub record IsJudge (j : Judge) (es : List Entry) (s : OptSet) : Type 0 where
  pub namespaces : AreNamespaces (namespaces_in j.instances.now)
  pub entries : AreEntries (namespaces_in j.instances.now) (items_by j) es
  pub asks : AreAsks (namespaces_in j.instances.now) es (items_by j) (could_in j.asks.now)
  pub declared : j.declared.now ≡ map (is_declared_in s) es

-- what something wanted could name
abbrev pub could_by : Judge → List Entry → Wanted → List ℕ
could_by j es = wanted_candidates (namespaces_in j.instances.now) es (items_by j)

-- one of these entries is declared
abbrev pub has_one : List Bool → List ℕ → Bool
has_one declared ds = list_any (is_in declared) ds

-- what these could name is in a row, from a number on
abbrev pub StandAt : (Wanted → List ℕ) → List (List ℕ) → ℕ → List Wanted → Type 0
StandAt could row number ws = (k : ℕ) (w : Wanted) → slice_get ws k ≡ Some w → get_or row (number + k) [] ≡ could w

-- a class word, and permissions of its class
abbrev pub wanted_behind : List Placed → ScopedWord → List PlacedWord → List Wanted
wanted_behind ps c ws = Word c ∷ map (λ w. Permission c (scoped_by ps w)) ws

abbrev pub unless : Bool → Fault → List Fault
unless b f = if b then [] else f ∷ []

-- the faults of all that a statement asks for
abbrev pub of_words : List Item → OptSet → Item → List Fault
of_words xs s x = faults_of_all xs s x.space (words_of x)
