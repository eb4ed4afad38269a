-- What declared names hold, as numbers, and the items for which it stands. This project's profile.
use Rattle.std.specs.Prelude.{◌≡◌, ℕ, Bool, true, false, ◌&&◌, ◌||◌, nat_eq, List, Contains, Some, slice_get}
use Rattle.std.specs.Option.{option_map_or}
use Rattle.cil_syntax.specs.declared.kind.Kind.{Kind}
use Rattle.cil_syntax.specs.declared.term.Word.{Word}
use Rattle.cil_syntax.specs.Kinds.{kind_number}
use Rattle.cil_syntax.specs.Scopes.{ScopedWord}
use Rattle.cil_syntax.specs.Terms.{Term}
use Rattle.cil_known.specs.macros.Item.{Item, words_in}
use Rattle.cil_known.specs.names.Entry.{Entry}
use Rattle.cil_known.specs.declared.known.Known.{Known}
use Rattle.cil_known.specs.names.Declarations.{Declared, Symbol}
use Rattle.cil_known.specs.names.Entries.{is_declared_in}
use Rattle.cil_known.specs.Family.{Family}
use Rattle.cil_known.specs.Known.{IsNumbered, enabled_in, meant_in}
use Rattle.cil_known.specs.names.Symbols.{symbol_of}
use Rattle.cil_known.specs.Spaces.{SpaceOf, any_sets, is_same_symbol}
use Rattle.cil_attrs.specs.declared.evaluator.Held.{Held}
use Rattle.cil_attrs.specs.Evaluated.{is_held}

abbrev pub is_kind : Kind → Kind → Bool
is_kind a b = nat_eq (kind_number a) (kind_number b)

module _ (k : Known) (xs : List Item) (names : Kind → List (List ℕ)) (space : SpaceOf) where
  -- the symbol is a declared item of the name space, and this is its number
  pub record IsItem (t : Symbol) (n : ℕ) : Type 0 where
    pub declared : Declared xs (enabled_in k) space.item t
    pub numbered : IsNumbered (names space.item) t n

  -- these are the numbers of all items
  abbrev pub AreAll : List ℕ → Type 0
  AreAll all = (t : Symbol) (n : ℕ) → IsItem t n → Contains all n

  -- a declared name stands for the item: it is that of the item, or that of a set that has it
  abbrev pub stands : Family → Entry → Symbol → Bool
  stands m e t =
      (is_kind e.kind space.item && is_same_symbol (symbol_of k.lookup.namespaces.now e) t)
      || (any_sets space (λ j. is_kind e.kind j.kind) && m (symbol_of k.lookup.namespaces.now e) t)

  -- the declared name of this number holds the numbers of the items for which it stands
  abbrev pub HoldsAs : List Held → Family → ℕ → Type 0
  HoldsAs helds m d =
      (e : Entry) → slice_get k.lookup.names.now d ≡ Some e → is_declared_in (enabled_in k) e ≡ true → (t : Symbol) (n : ℕ) → IsItem t n
      → option_map_or (is_held n) (slice_get helds d) false ≡ stands m e t

  -- so does each that a word of an expression names
  abbrev pub HoldAs : List Held → Family → (Word → ScopedWord) → Term Word → Type 0
  HoldAs helds m f t = (w : Word) (d : ℕ) → Contains (words_in t) w → Some d ≡ meant_in k (f w) → HoldsAs helds m d
