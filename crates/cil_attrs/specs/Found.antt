-- The family of sets for which made sets stand. No other crate needs these words.
use Rattle.std.specs.Prelude.{ℕ, Bool, false, ◌&&◌, List, Option, get_or}
use Rattle.std.specs.Option.{option_map_or}
use Rattle.cil_known.specs.names.Declarations.{Symbol}
use Rattle.cil_known.specs.names.Entries.{is_declared_in, place_where}
use Rattle.cil_known.specs.Family.{Family}
use Rattle.cil_known.specs.Known.{enabled_in}
use Rattle.cil_known.specs.names.Symbols.{symbol_of}
use Rattle.cil_known.specs.Spaces.{SpaceOf, any_sets, is_same_symbol}
use Rattle.cil_known.specs.names.Entry.{Entry}
use Rattle.cil_known.specs.declared.known.Known.{Known}
use Rattle.cil_attrs.specs.declared.evaluator.Held.{Held}
use Rattle.cil_attrs.specs.Holding.{is_kind}
use Rattle.cil_attrs.specs.Made.{held_at}

module _ (k : Known) (which : SpaceOf) where
  -- the entry is that of the set
  abbrev pub is_set_entry : Symbol → Entry → Bool
  is_set_entry a e = any_sets which (λ j. is_kind e.kind j.kind) && is_same_symbol (symbol_of k.lookup.namespaces.now e) a

  -- the entry is that of the item, which is declared
  abbrev pub is_item_entry : Symbol → Entry → Bool
  is_item_entry t e = (is_kind e.kind which.item && is_declared_in (enabled_in k) e) && is_same_symbol (symbol_of k.lookup.namespaces.now e) t

  abbrev pub set_place : Symbol → Option ℕ
  set_place a = place_where (is_set_entry a) k.lookup.names.now

  abbrev pub item_place : Symbol → Option ℕ
  item_place t = place_where (is_item_entry t) k.lookup.names.now

  -- each set has the items whose numbers its entry holds
  unfoldable pub family_of : List Held → Family
  family_of held a t = option_map_or (λ d. option_map_or (λ n. held_at held d (get_or k.numbers.now n 0)) (item_place t) false) (set_place a) false

  -- the rank of a set is that of its entry
  unfoldable pub rank_by : List ℕ → Symbol → ℕ
  rank_by ranks a = option_map_or (λ d. get_or ranks d 0) (set_place a) 0
