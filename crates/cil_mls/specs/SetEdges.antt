-- Which sets of categories name which, by the numbers of their entries. No other crate needs these words.
use Rattle.std.specs.Prelude.{◌≡◌, ◌↔◌, ℕ, Bool, true, false, List, Contains, Some, get_or, slice_get}
use Rattle.std.specs.Option.{option_map_or}
use Rattle.cil_faults.specs.declared.spot.Spot.{Spot}
use Rattle.cil_syntax.specs.declared.kind.Kind.{Kind}
use Rattle.cil_syntax.specs.declared.kind.Kind.TheVariants as kinds
use Rattle.cil_syntax.specs.Scopes.{ScopedWord}
use Rattle.cil_attrs.specs.macros.Item.{Item, all_words_in}
use Rattle.cil_attrs.specs.names.Declarations.{Symbol}
use Rattle.cil_attrs.specs.names.Entry.{Entry}
use Rattle.cil_attrs.specs.known.DeclaredKnown.{Known}
use Rattle.cil_attrs.specs.known.Known.{enabled_in, meant_in}
use Rattle.cil_attrs.specs.SetFaults.{DeclaresAt, symbol_under}
use Rattle.cil_attrs.specs.Targets.{IsEntryAt}
use Rattle.cil_mls.specs.CategorySets.{DependsOn}

-- the kind is that of sets of categories
abbrev pub is_set_kind : Kind → Bool
is_set_kind kinds.CategorySet = true
is_set_kind kind = false

abbrev pub is_set : Entry → Bool
is_set e = is_set_kind e.kind

-- the entry of this number is that of a set of categories
abbrev pub is_set_at : List Entry → ℕ → Bool
is_set_at es d = option_map_or is_set (slice_get es d) false

module _ (k : Known) (xs : List Item) where
  -- the statement declares the set of this number
  pub record DeclaresSet (x : Item) (d : ℕ) : Type 0 where
    pub at : Spot
    pub name : List ℕ
    pub declares : DeclaresAt xs (enabled_in k) kinds.CategorySet x at name
    pub entry : IsEntryAt k.lookup.namespaces.now k.lookup.names.now kinds.CategorySet d (symbol_under x name)

  -- and no other set
  pub record DeclaresJust (x : Item) (d : ℕ) : Type 0 where
    pub declares : DeclaresSet x d
    pub only : (c : ℕ) → DeclaresSet x c → c ≡ d

  -- it declares no set
  abbrev pub DeclaresNone : Item → Type 0
  DeclaresNone x = (at : Spot) (name : List ℕ) → DeclaresAt xs (enabled_in k) kinds.CategorySet x at name → ⊥

  -- it declares the one set, and a word of it means the other
  pub record IsSetEdge (x : Item) (a b : ℕ) : Type 0 where
    pub declares : DeclaresSet x a
    pub word : ScopedWord
    pub within : Contains (all_words_in x.args) word
    pub means : meant_in k word ≡ Some b
    pub of_sets : is_set_at k.lookup.names.now b ≡ true

  -- some statement does
  abbrev pub IsSetEdgeIn : ℕ → ℕ → Type 0
  IsSetEdgeIn a b = (x : Item) × Contains xs x × IsSetEdge x a b

  -- the sets that depend on themselves are flagged
  abbrev pub AreCircularSets : List Bool → Type 0
  AreCircularSets flags =
      (d : ℕ) (a : Symbol) → IsEntryAt k.lookup.namespaces.now k.lookup.names.now kinds.CategorySet d a → (get_or flags d false ≡ true) ↔ DependsOn xs (enabled_in k) a a
