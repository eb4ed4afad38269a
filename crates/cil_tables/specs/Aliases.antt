-- Other names of types. CIL Reference Guide, "typealias", "typealiasactual".
use Rattle.std.specs.Prelude.{◌≡◌, ◌⊎◌, ℕ, List}
use Rattle.cil_syntax.specs.declared.kind.Kind.TheVariants as kinds
use Rattle.cil_macros.specs.Item.{Item, OptSet}
use Rattle.cil_names.specs.Declarations.{Declared, Symbol, name_of}
use Rattle.cil_known.specs.Known.{IsMemberNumber}
use Rattle.cil_known.specs.Members.{IsMember}
use Rattle.cil_tables.specs.declared.tables.Alias.{Alias}

-- the qualified name of a declared alias, and the number of the type for which it stands
pub record IsAlias (xs : List Item) (s : OptSet) (types : List (List ℕ)) (r : Alias) : Type 0 where
  pub alias : Symbol
  pub an_alias : Declared xs s kinds.TypeAlias alias
  pub named : name_of alias ≡ r.name
  pub target : IsMemberNumber xs s kinds.Type_ types alias r.target

-- the text is the qualified name of an alias of the type
pub record IsAliasOf (xs : List Item) (s : OptSet) (text : List ℕ) (kind : Symbol) : Type 0 where
  pub alias : Symbol
  pub an_alias : Declared xs s kinds.TypeAlias alias
  pub named : name_of alias ≡ text
  pub member : IsMember xs s kinds.Type_ alias kind

-- the text names the type: it is its qualified name, or that of an alias of it
abbrev pub NamesType : List Item → OptSet → List ℕ → Symbol → Type 0
NamesType xs s text kind = (name_of kind ≡ text) ⊎ IsAliasOf xs s text kind
