-- Class permissions, permissions of class maps and permissions of classes, by numbers. No other crate needs these words.
use Rattle.std.specs.Prelude.{◌≡◌, ◌<◌, ◌≤◌, ℕ, List, Some, slice_get}
use Rattle.std.specs.Global.{Vec}
use Rattle.cil_base.specs.declared.bytes.Bytes.{Bytes}
use Rattle.cil_syntax.specs.declared.kind.Kind.{Kind}
use Rattle.cil_syntax.specs.declared.kind.Kind.TheVariants as kinds
use Rattle.cil_macros.specs.blocks.Space.{Space}
use Rattle.cil_macros.specs.Item.{Item, OptSet}
use Rattle.cil_names.specs.Declarations.{Declared, Symbol, name_of}
use Rattle.cil_names.specs.declared.entry.Entry.{Entry}
use Rattle.cil_known.specs.declared.known.Known.{Known}
use Rattle.cil_names.specs.Symbols.{symbol_of}
use Rattle.cil_names.specs.Unresolved.{listed_at}
use Rattle.cil_classes.specs.declared.nodes.Node.{Node}
use Rattle.cil_classes.specs.declared.nodes.Run.{Run}
use Rattle.cil_classes.specs.declared.row.Class.{Class}
use Rattle.cil_classes.specs.Given.{Holder, mapped, named}

-- the entry of this number is of this kind, and that of this symbol
pub record IsEntryOf (ss : List Space) (es : List Entry) (kind : Kind) (d : ℕ) (c : Symbol) : Type 0 where
  pub entry : Entry
  pub at : slice_get es d ≡ Some entry
  pub of_kind : entry.kind ≡ kind
  pub symbol : symbol_of ss entry ≡ c

-- what a node stands for
abbrev pub StandsAs : List Space → List Entry → List (Vec Bytes) → Node → Holder → Type 0
StandsAs ss es lists n (named c) = IsEntryOf ss es kinds.ClassPermission n.entry c × (n.number ≡ 0)
StandsAs ss es lists n (mapped m r) = IsEntryOf ss es kinds.ClassMap n.entry m × (slice_get (listed_at lists n.entry) n.number ≡ Some r)

-- the node of this number stands for the holder
pub record IsNode (ss : List Space) (es : List Entry) (lists : List (Vec Bytes)) (nodes : List Node) (v : ℕ) (h : Holder) : Type 0 where
  pub node : Node
  pub at : slice_get nodes v ≡ Some node
  pub stands : StandsAs ss es lists node h

-- the same, by what is known
abbrev pub IsNodeIn : Known → List Node → ℕ → Holder → Type 0
IsNodeIn k nodes = IsNode k.lookup.namespaces.now k.lookup.names.now k.permissions.now nodes

-- the bit of the class of this number is that of this permission of the class
pub record IsBitOf (xs : List Item) (s : OptSet) (rows : List Class) (class_ bit : ℕ) (c : Symbol) (p : List ℕ) : Type 0 where
  pub row : Class
  pub is_row : slice_get rows class_ ≡ Some row
  pub named : row.name ≡ name_of c
  pub declared : Declared xs s kinds.Class c
  pub at : slice_get row.permissions bit ≡ Some p

-- the nodes of an entry are those from the start on, up to the end
pub record IsRunOf (nodes : List Node) (entry : ℕ) (run : Run) : Type 0 where
  pub of_entry : (v : ℕ) (n : Node) → run.start ≤ v → v < run.end → slice_get nodes v ≡ Some n → n.entry ≡ entry
  pub in_run : (v : ℕ) (n : Node) → slice_get nodes v ≡ Some n → n.entry ≡ entry → (run.start ≤ v) × (v < run.end)
