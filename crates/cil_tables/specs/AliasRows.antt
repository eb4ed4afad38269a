-- The aliases of types, by the entries of declared names. No other crate needs these words.
use Rattle.std.specs.Prelude.{◌≡◌, ◌↔◌, ◌<◌, ℕ, true, List, [], Contains, Some, get_or, slice_get}
use Rattle.cil_syntax.specs.declared.kind.Kind.TheVariants as kinds
use Rattle.cil_names.specs.declared.entry.Entry.{Entry}
use Rattle.cil_known.specs.declared.known.Known.{Known}
use Rattle.cil_known.specs.Known.{enabled_in}
use Rattle.cil_known.specs.Numbers.{spelled_of}
use Rattle.cil_names.specs.Symbols.{is_of}
use Rattle.cil_tables.specs.declared.tables.Alias.{Alias}

abbrev pub alias_to : List ℕ → ℕ → Alias
alias_to name target = record { name = name; target = target }

-- the declared name of this number is an alias, and has the type of this one
pub record IsAliasAt (k : Known) (types : List (List ℕ)) (d : ℕ) (a : Alias) : Type 0 where
  pub entry : Entry
  pub at : slice_get k.lookup.names.now d ≡ Some entry
  pub is_alias : is_of (enabled_in k) kinds.TypeAlias entry ≡ true
  pub named : spelled_of k.lookup.namespaces.now entry ≡ a.name
  pub target : Contains (get_or types d []) a.target

-- these are those of the declared names below a number
abbrev pub AreAliasesAt : Known → List (List ℕ) → ℕ → List Alias → Type 0
AreAliasesAt k types end aliases = (a : Alias) → Contains aliases a ↔ ((d : ℕ) × (d < end) × IsAliasAt k types d a)
