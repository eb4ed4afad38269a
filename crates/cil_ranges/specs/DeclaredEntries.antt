-- Which names statements declare, by the numbers of their entries. No other crate needs these words.
use Rattle.std.specs.Prelude.{◌≡◌, ℕ, List}
use Rattle.cil_faults.specs.declared.spot.Spot.{Spot}
use Rattle.cil_syntax.specs.declared.kind.Kind.{Kind}
use Rattle.cil_macros.specs.Item.{Item}
use Rattle.cil_known.specs.declared.known.Known.{Known}
use Rattle.cil_known.specs.Known.{enabled_in}
use Rattle.cil_mls.specs.attrs.SetFaults.{DeclaresAt, symbol_under}
use Rattle.cil_mls.specs.attrs.Targets.{IsEntryAt}

module _ (k : Known) (xs : List Item) (kind : Kind) where
  -- the statement declares what has this entry
  pub record DeclaresEntry (x : Item) (d : ℕ) : Type 0 where
    pub at : Spot
    pub name : List ℕ
    pub declares : DeclaresAt xs (enabled_in k) kind x at name
    pub entry : IsEntryAt k.lookup.namespaces.now k.lookup.names.now kind d (symbol_under x name)

  -- and nothing else of this kind
  pub record DeclaresJust (x : Item) (d : ℕ) : Type 0 where
    pub declares : DeclaresEntry x d
    pub only : (c : ℕ) → DeclaresEntry x c → c ≡ d

  -- it declares nothing of this kind
  abbrev pub DeclaresNone : Item → Type 0
  DeclaresNone x = (at : Spot) (name : List ℕ) → DeclaresAt xs (enabled_in k) kind x at name → ⊥
