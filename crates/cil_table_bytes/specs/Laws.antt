-- The laws of the layout of tables.
use Rattle.std.specs.Prelude.{◌≡◌, ℕ, ◌<◌, List, get_or, ◌++◌, length, Err}
use Rattle.cil_tables.specs.Table.{Table}
use Rattle.cil_format.specs.declared.fault.TableFault.TheVariants.{Short}
use Rattle.cil_table_bytes.specs.Layout.{IsProper, layout, table_in}

abbrev pub AreBytes : List ℕ → Type 0
AreBytes bytes = (i : ℕ) → get_or bytes i 0 < 256

-- tables with equal bytes are equal
abbrev pub HasOneValue : Type 0
HasOneValue = (t u : Table) → IsProper t → IsProper u → layout t ≡ layout u → t ≡ u

-- whatever is cut from the end of the bytes of a table, they are short then
abbrev pub ShortOnly : Type 0
ShortOnly = (t : Table) (front more : List ℕ) → IsProper t → AreBytes front → layout t ≡ front ++ more → 0 < length more → table_in front ≡ Err Short
