-- What a class permission gives, by the numbers of its words. No other crate needs these words.
use Rattle.std.specs.Prelude.{◌≡◌, ◌↔◌, ◌⊎◌, ◌<◌, ◌≤◌, ℕ, true, List, Contains, Some, slice_get}
use Rattle.std.specs.Global.{Vec}
use Rattle.cil_syntax.specs.declared.kind.Kind.{Kind}
use Rattle.cil_syntax.specs.declared.term.Op.{Op}
use Rattle.cil_syntax.specs.declared.term.Term as rust
use Rattle.cil_syntax.specs.Scopes.{ScopedWord}
use Rattle.cil_syntax.specs.Terms.{Term}
use Rattle.cil_macros.specs.Item.{Item}
use Rattle.cil_names.specs.Declarations.{Symbol}
use Rattle.cil_names.specs.declared.entry.Entry.{Entry}
use Rattle.cil_known.specs.declared.known.Known.{Known}
use Rattle.cil_known.specs.Known.{enabled_in, meant_in}
use Rattle.cil_known.specs.Members.{StandsFor}
use Rattle.cil_names.specs.Symbols.{symbol_of}
use Rattle.cil_classes.specs.declared.assigned.Part.{Part}
use Rattle.cil_classes.specs.declared.nodes.Node.{Node}
use Rattle.cil_classes.specs.declared.nodes.Run.{Run}
use Rattle.cil_classes.specs.declared.row.Class.{Class}
use Rattle.cil_classes.specs.Given.{Holder}
use Rattle.cil_classes.specs.Nodes.{IsBitOf, IsNodeIn, StandsAs}
use Rattle.cil_classes.specs.Tied.{IsPart, Leads}
use Rattle.cil_classes.specs.Values.{in_value_there}

-- the number of the entry of the one symbol of this kind for which the word stands
pub record IsEntryFor (k : Known) (xs : List Item) (kind : Kind) (w : ScopedWord) (d : ℕ) : Type 0 where
  pub means : Some d ≡ meant_in k w
  pub entry : Entry
  pub at : slice_get k.lookup.names.now d ≡ Some entry
  pub of_kind : entry.kind ≡ kind
  pub stands : StandsFor xs (enabled_in k) kind w (symbol_of k.lookup.namespaces.now entry)
  pub only_symbol : (t : Symbol) → StandsFor xs (enabled_in k) kind w t → t ≡ symbol_of k.lookup.namespaces.now entry

-- each node stands for a class permission or a permission of a class map
abbrev pub AreNodes : Known → List Node → Type 0
AreNodes k nodes = (v : ℕ) (n : Node) → slice_get nodes v ≡ Some n → (h : Holder) × StandsAs k.lookup.namespaces.now k.lookup.names.now k.permissions.now n h

-- these are the nodes of all to which the class permission leads
pub record AreLed (k : Known) (xs : List Item) (nodes : List Node) (cp : Term ScopedWord) (from : List ℕ) : Type 0 where
  pub leads : (v : ℕ) (h : Holder) → IsNodeIn k nodes v h → Leads xs (enabled_in k) cp h ↔ Contains from v
  pub are_nodes : (v : ℕ) → Contains from v → (h : Holder) × IsNodeIn k nodes v h

-- the permission of the node of this number is in the value of the expression
pub record IsHeldAt (permissions : List (List ℕ)) (nodes : List Node) (e : Term ScopedWord) (v : ℕ) : Type 0 where
  pub node : Node
  pub at : slice_get nodes v ≡ Some node
  pub permission : List ℕ
  pub is_permission : slice_get permissions node.number ≡ Some permission
  pub value : in_value_there e permission ≡ true

-- these are the places of a run, up to a place, at which this is so
pub record AreThoseUpTo (P : ℕ → Type 0) (run : Run) (v : ℕ) (from : List ℕ) : Type 0 where
  pub low : run.start ≤ v
  pub high : (v ≤ run.end) ⊎ (v ≡ run.start)
  pub members : (u : ℕ) → Contains from u ↔ ((run.start ≤ u) × (u < v) × P u)

-- each node of the run is of one of these permissions
abbrev pub AreAmong : List (List ℕ) → List Node → Run → Type 0
AreAmong permissions nodes run = (v : ℕ) (n : Node) → run.start ≤ v → v < run.end → slice_get nodes v ≡ Some n → (p : List ℕ) × (slice_get permissions n.number ≡ Some p)

-- the term is no word and no name
abbrev pub IsForm : rust.Term → Type 0
IsForm t = (op : Op) × (at : ℕ) × (parts : Vec rust.Term) × (t ≡ rust.Form op at parts)

-- the class permission gives this, by what is known
abbrev pub IsPartIn : Known → List Item → List Class → List Node → Part → Term ScopedWord → Type 0
IsPartIn k xs rows nodes = IsPart xs (enabled_in k) (IsNodeIn k nodes) (IsBitOf xs (enabled_in k) rows)
