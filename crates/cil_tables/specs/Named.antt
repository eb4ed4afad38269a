-- The names of a section. No other crate needs these words.
use Rattle.std.specs.Prelude.{◌≡◌, ℕ, List}
use Rattle.cil_syntax.specs.declared.kind.Kind.{Kind}
use Rattle.cil_macros.specs.Item.{Item, OptSet}
use Rattle.cil_names.specs.Declarations.{Declared, Symbol, name_of}

-- the qualified name of a declared symbol of this kind
pub record IsNameOf (xs : List Item) (s : OptSet) (kind : Kind) (name : List ℕ) : Type 0 where
  pub symbol : Symbol
  pub declared : Declared xs s kind symbol
  pub named : name_of symbol ≡ name
