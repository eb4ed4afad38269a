-- Laws that fix the definitions: what they say together of every text.
use Rattle.std.specs.Prelude.{◌≡◌, ℕ, ◌⊎◌, List, length, slice_range}
use Rattle.cil_sexpr.specs.declared.fault.ReadCode.{ReadCode}
use Rattle.cil_sexpr.specs.Faults.{FaultOf}
use Rattle.cil_sexpr.specs.Text.{IsText, IsReadable}
use Rattle.cil_sexpr.specs.Tree.{Node, Word, Quoted, Branch, Nodes, Lies, AreInOrder}

-- a text has at most one tree
abbrev pub HasOneTree : Type 0
HasOneTree = (text : List ℕ) (a b : Nodes) → IsText text a → IsText text b → a ≡ b

-- no text has both a tree and a fault
abbrev pub NeverBoth : Type 0
NeverBoth = (text : List ℕ) (code : ReadCode) (at : ℕ) → IsReadable text → FaultOf text code at → ⊥

-- a text that has this fault as its first
pub record IsFaulty (text : List ℕ) : Type 0 where
  pub code : ReadCode
  pub at : ℕ
  pub fault : FaultOf text code at

-- every text has a tree or a fault
abbrev pub AlwaysEither : Type 0
AlwaysEither = (text : List ℕ) → IsReadable text ⊎ IsFaulty text

-- a text has at most one first fault
abbrev pub HasOneFault : Type 0
HasOneFault =
    (text : List ℕ) (a b : ReadCode) (i j : ℕ) → FaultOf text a i → FaultOf text b j → (a ≡ b) × (i ≡ j)

-- the bytes of a word or a string are those of the text at its place
abbrev pub IsSlice : List ℕ → Node → Type 0
IsSlice text (Word place bytes) = bytes ≡ slice_range text place.start place.end
IsSlice text (Quoted place bytes) = bytes ≡ slice_range text place.start place.end
IsSlice text (Branch place inner) = Unit {0}

abbrev pub HasSlices : Type 0
HasSlices = (text : List ℕ) (nodes : Nodes) (n : Node) → IsText text nodes → Lies n nodes → IsSlice text n

-- the nodes of a tree stand one after another in the text, each inside the list round it
abbrev pub IsInOrder : Type 0
IsInOrder = (text : List ℕ) (nodes : Nodes) → IsText text nodes → AreInOrder 0 (length text) nodes
