-- The sections of a table that statements give, of a policy that forbids none of its own rules. No other crate needs these words.
use Rattle.std.specs.Prelude.{◌≡◌, ℕ, List, Contains}
use Rattle.cil_syntax.specs.declared.kind.Kind.{Kind}
use Rattle.cil_syntax.specs.declared.kind.Kind.TheVariants as kinds
use Rattle.cil_macros.specs.Item.{Item, OptSet}
use Rattle.cil_classes.specs.declared.row.Class.{Class}
use Rattle.cil_tables.specs.Booleans.{is_default_on}
use Rattle.cil_tables.specs.Sections.{AreGiven}
use Rattle.cil_tables.specs.Table.{boolean_names}
use Rattle.cil_tables.specs.declared.filled.Filled.{Filled}
use Rattle.cil_tables.specs.declared.tables.Boolean.{Boolean}

pub record IsFilled (xs : List Item) (s : OptSet) (names : Kind → List (List ℕ)) (classes : List Class) (f : Filled) : Type 0 where
  pub given : AreGiven xs s names classes f.given
  pub booleans : boolean_names f.booleans.items ≡ names kinds.Boolean
  pub defaults : (b : Boolean) → Contains f.booleans.items b → b.default ≡ is_default_on xs s b.name
