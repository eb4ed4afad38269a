-- Quadruples by the numbers of their names. No other crate needs these words.
use Rattle.std.specs.Prelude.{◌≡◌, ℕ, List, Some, slice_get}
use Rattle.cil_index.specs.classes.Class.{Class}
use Rattle.cil_index.specs.names.Declarations.{name_of}
use Rattle.cil_index.specs.known.Known.{IsNumbered}
use Rattle.cil_neverallow.specs.NeverFaults.{Quadruple}
use Rattle.cil_neverallow.specs.declared.overlap.Overlap.{Overlap}

-- the numbers are those of the quadruple, by the sections of types and classes
pub record AreNumbersOf (types : List (List ℕ)) (rows : List Class) (o : Overlap) (q : Quadruple) : Type 0 where
  pub source_is : IsNumbered types q.source o.source
  pub target_is : IsNumbered types q.target o.target
  pub row : Class
  pub is_row : slice_get rows o.class ≡ Some row
  pub named : row.name ≡ name_of q.class_
  pub permission_is : slice_get row.permissions o.bit ≡ Some q.permission
