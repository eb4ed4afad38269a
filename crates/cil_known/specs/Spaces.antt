-- The name spaces whose words may stand for several symbols: types, roles and users, with their aliases and attributes. CIL
-- Reference Guide, "Type Statements", "Role Statements", "User Statements".
use Rattle.std.specs.Prelude.{Bool, false, ◌&&◌, ◌||◌, nat_eq, List, Option}
use Rattle.std.specs.List.{list_any}
use Rattle.std.specs.Option.{option_map_or}
use Rattle.cil_syntax.specs.declared.kind.Keyword.{Keyword}
use Rattle.cil_syntax.specs.declared.kind.Kind.{Kind}
use Rattle.cil_syntax.specs.Kinds.{is_wanted, kind_number}
use Rattle.cil_faults.specs.Namespaces.{Namespace}
use Rattle.cil_syntax.specs.Scopes.{ScopedWord, asked, same_space}
use Rattle.cil_syntax.specs.Spelling.{same_bytes}
use Rattle.cil_names.specs.macros.Item.{Item, OptSet, is_enabled}
use Rattle.cil_names.specs.Declarations.{Declaration, Symbol, declared_by, object_role}
use Rattle.cil_names.specs.Resolves.{found_in}

-- a kind of sets, and which statements give them members
pub record Sets : Type 0 where
  pub kind : Kind
  pub giving : Keyword → Bool

-- a name space: the kind of its items, and its aliases and attributes. An alias is a set of one member
pub record SpaceOf : Type 0 where
  pub item : Kind
  pub aliases : Option Sets
  pub attributes : Option Sets

abbrev pub is_same_symbol : Symbol → Symbol → Bool
is_same_symbol a b = same_space a.space b.space && same_bytes a.name b.name

-- the declaration is of this kind, and of this symbol
abbrev pub is_of_symbol : Kind → Symbol → Declaration → Bool
is_of_symbol kind t d = nat_eq (kind_number d.kind) (kind_number kind) && same_space d.space t.space && same_bytes d.name t.name

-- the symbol is declared with this kind, as a test
unfoldable pub is_declared : List Item → OptSet → Kind → Symbol → Bool
is_declared xs s kind t = is_of_symbol kind t object_role || list_any (λ x. is_enabled s x && list_any (is_of_symbol kind t) (declared_by x)) xs

-- the symbol of a word, where it is found in this namespace
abbrev pub symbol_in : ScopedWord → Namespace → Symbol
symbol_in w n = record { space = n; name = (asked w.bytes).name }

-- the word names the symbol, which is declared with this kind
unfoldable pub names : List Item → OptSet → Kind → ScopedWord → Symbol → Bool
names xs s kind w t = is_wanted w.sign kind && is_declared xs s kind t && option_map_or (λ n. is_same_symbol (symbol_in w n) t) (found_in xs s w) false

-- ---- sets: aliases and attributes

abbrev pub any_sets : SpaceOf → (Sets → Bool) → Bool
any_sets space test = option_map_or test space.aliases false || option_map_or test space.attributes false

-- the symbol is declared as a set
abbrev pub is_set : List Item → OptSet → SpaceOf → Symbol → Bool
is_set xs s space a = any_sets space (λ k. is_declared xs s k.kind a)

-- the word names the set
abbrev pub names_set : List Item → OptSet → SpaceOf → ScopedWord → Symbol → Bool
names_set xs s space w a = any_sets space (λ k. names xs s k.kind w a)
