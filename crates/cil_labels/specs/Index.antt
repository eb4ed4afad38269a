-- The names that contexts may use, in byte order. No other crate needs these words.
use Rattle.std.specs.Prelude.{◌↔◌, ℕ, List}
use Rattle.cil_mls.specs.declared.named.Named.{Named}
use Rattle.cil_mls.specs.Names.{AreNames, IsNamed, NamesOfLevels}
use Rattle.cil_labels.specs.LevelTable.{LevelTable, NamesPlace}

-- the list has the names that can be written, each once, and the places for which they stand
pub record IsIndexOf (count : ℕ) (names : List (List ℕ)) (aliases index : List Named) : Type 0 where
  pub are_names : AreNames count index
  pub same : (text : List ℕ) (n : ℕ) → IsNamed index text n ↔ NamesPlace names aliases text n

-- each name that can be written stands for one place, below the count: so there is such a list
abbrev pub HasIndex : ℕ → List (List ℕ) → List Named → Type 0
HasIndex count names aliases = (index : List Named) × IsIndexOf count names aliases index

-- the lists of sensitivities and of categories
pub record AreIndexed (t : LevelTable) (ns : NamesOfLevels) : Type 0 where
  pub sensitivities : IsIndexOf 256 t.sensitivities t.sensitivity_aliases ns.sensitivities
  pub categories : IsIndexOf 1024 t.categories t.category_aliases ns.categories
