-- What is true of every order, level and text.
use Rattle.std.specs.Prelude.{◌≡◌, ◌↔◌, ℕ, true, List}
use Rattle.cil_settle.specs.declared.edge.Edge.{Edge}
use Rattle.cil_mls.specs.declared.level.Level.{Level}
use Rattle.cil_mls.specs.Bits.{AreWords}
use Rattle.cil_mls.specs.Dominance.{AreSame, Dominates, dominates}
use Rattle.cil_mls.specs.Edges.{IsFixed}
use Rattle.cil_mls.specs.Hashed.{hashed}
use Rattle.cil_mls.specs.Names.{AreNames, IsLevelOf, NamesOfLevels}

-- edges fix at most one order
abbrev pub HasOneOrder : Type 0
HasOneOrder = (count : ℕ) (edges : List Edge) (row other : List ℕ) → IsFixed count edges row → IsFixed count edges other → row ≡ other

-- the test of dominance is dominance
abbrev pub DominanceIsTested : Type 0
DominanceIsTested = (a b : Level) → (dominates a b ≡ true) ↔ Dominates a b

-- levels with the same sensitivity and the same categories are equal
abbrev pub SameAreEqual : Type 0
SameAreEqual = (a b : Level) → AreWords a.categories.words → AreWords b.categories.words → AreSame a b → a ≡ b

-- sets that write the same to a hasher are equal
abbrev pub WritesTellApart : Type 0
WritesTellApart = (v w : List ℕ) → AreWords v → AreWords w → hashed 0 v ≡ hashed 0 w → v ≡ w

-- a text is at most one level, by names that rise
abbrev pub HasOneLevel : Type 0
HasOneLevel = (ns : NamesOfLevels) → AreNames 256 ns.sensitivities → (text : List ℕ) (a b : Level) → IsLevelOf ns text a → IsLevelOf ns text b → AreSame a b
