-- The aliases of sensitivities and of categories, by the entries of declared names. No other crate needs these words.
use Rattle.std.specs.Prelude.{◌≡◌, ◌↔◌, ◌<◌, ℕ, true, List, [], Contains, Some, get_or, length, slice_get}
use Rattle.std.specs.List.Sorted.{IsStrictlySortedBy}
use Rattle.cil_syntax.specs.declared.kind.Kind.{Kind}
use Rattle.cil_macros.specs.Item.{Item}
use Rattle.cil_names.specs.declared.entry.Entry.{Entry}
use Rattle.cil_names.specs.Symbols.{is_of}
use Rattle.cil_known.specs.declared.known.Known.{Known}
use Rattle.cil_known.specs.Known.{HaveMembers, enabled_in}
use Rattle.cil_known.specs.Numbers.{spelled_of}
use Rattle.cil_mls.specs.declared.named.Named.{Named}
use Rattle.cil_mls.specs.Names.{named_cmp}
use Rattle.cil_mls.specs.Ordering.{AreNumbered}
use Rattle.cil_ranges.specs.levels_crate.Begun.{AreInverse}

-- for which items of a kind words and declared names stand, by the numbers that these items have among some names
pub record AreItems (k : Known) (xs : List Item) (sections : Kind → List (List ℕ)) (kind : Kind) (names : List (List ℕ)) (sets : List (List ℕ)) : Type 0 where
  pub numbered : AreNumbered k xs sections kind names sets
  pub members : HaveMembers k xs sections kind sets

-- a name, and the place of a number
abbrev pub alias_to : List ℕ → List ℕ → ℕ → Named
alias_to places name n = record { name = name; place = get_or places n 0 }

module _ (k : Known) (alias_kind : Kind) (standing : List (List ℕ)) (places : List ℕ) where
  -- the declared name of this number is an alias of this kind, and stands for a number that has this place
  pub record IsEntryAlias (d : ℕ) (a : Named) : Type 0 where
    pub entry : Entry
    pub at : slice_get k.lookup.names.now d ≡ Some entry
    pub is_alias : is_of (enabled_in k) alias_kind entry ≡ true
    pub named : spelled_of k.lookup.namespaces.now entry ≡ a.name
    pub number : ℕ
    pub stands : Contains (get_or standing d []) number
    pub placed : get_or places number 0 ≡ a.place

  -- these are those of the declared names below a number
  abbrev pub AreAliasesBelow : ℕ → List Named → Type 0
  AreAliasesBelow end aliases = (a : Named) → Contains aliases a ↔ ((d : ℕ) × (d < end) × IsEntryAlias d a)

-- those of all declared names, in byte order, with the places that numbers have in this order
pub record ListsAliases (k : Known) (alias_kind : Kind) (standing : List (List ℕ)) (order : List ℕ) (aliases : List Named) : Type 0 where
  pub places : List ℕ
  pub inverse : AreInverse order places
  pub are : AreAliasesBelow k alias_kind standing places (length k.lookup.names.now) aliases
  pub rising : IsStrictlySortedBy named_cmp aliases
