-- The members of all sets of a name space, by numbers.
use Rattle.std.specs.Prelude.{◌≡◌, ◌||◌, ◌<◌, ℕ, true, List, Option, length, slice_get, Some}
use Rattle.std.specs.List.{list_any}
use Rattle.std.specs.Ordering.{nat_cmp}
use Rattle.cil_base.specs.Lists.{Lists}
use Rattle.cil_syntax.specs.declared.kind.Kind.{Kind}
use Rattle.cil_syntax.specs.declared.term.Word.{Word}
use Rattle.cil_known.specs.macros.Item.{Item}
use Rattle.cil_known.specs.macros.Items.{Kept, items_in, word_at}
use Rattle.cil_known.specs.names.Declarations.{Symbol}
use Rattle.cil_known.specs.names.Entry.{Entry}
use Rattle.cil_known.specs.declared.known.Known.{Known}
use Rattle.cil_known.specs.Family.{Family, IsRanked, Solves, no_range}
use Rattle.cil_known.specs.Known.{IsKnown, enabled_in, meant_in}
use Rattle.cil_known.specs.Spaces.{SpaceOf}
use Rattle.cil_attrs.specs.declared.evaluator.Held.{Held}
use Rattle.cil_attrs.specs.declared.giver.SpaceKinds.{SpaceKinds}
use Rattle.cil_attrs.specs.declared.making.Given.{Given}
use Rattle.cil_attrs.specs.Begun.{begun_as}
use Rattle.cil_attrs.specs.Givers.{HasKinds}
use Rattle.cil_attrs.specs.Holding.{HoldsAs}
use Rattle.cil_attrs.specs.Made.{held_at, is_made_by}

-- ---- what is answered

-- the sets that these hold by their numbers are those of a family that has just the members that statements give; no set depends on
-- itself, which ranks show, so there is one such family alone. No number is in a set that is not that of an item
pub record AreMembers (k : Known) (xs : List Item) (sections : Kind → List (List ℕ)) (which : SpaceOf) (held : List Held) : Type 0 where
  pub family : Family
  pub solves : Solves xs (enabled_in k) which no_range family
  pub rank : Symbol → ℕ
  pub ranked : IsRanked xs (enabled_in k) which no_range rank
  pub holds : (d : ℕ) → HoldsAs k xs sections which held family d
  pub within : (d v : ℕ) → held_at held d v ≡ true → v < length (sections which.item)

-- what is known of a policy and of a name space with these kinds, and the names of its items
pub record IsIn (k : Known) (i : Kept) (r : SpaceKinds) (names : List (List ℕ)) (sections : Kind → List (List ℕ)) (which : SpaceOf) : Type 0 where
  pub known : IsKnown k (items_in i) sections
  pub is_space : HasKinds r which
  pub named : sections which.item ≡ names

-- ---- what is made. No other crate needs these words

module _ (k : Known) (i : Kept) where
  -- what a word of a statement means
  abbrev pub meaning_there : Given → Word → Option ℕ
  meaning_there g w = meant_in k (word_at i g.at w)

  -- at first each declared name holds this
  abbrev pub AreBegun : SpaceKinds → List Held → Type 0
  AreBegun r first = (d : ℕ) (e : Entry) → slice_get k.lookup.names.now d ≡ Some e → slice_get first d ≡ Some (begun_as r (enabled_in k) k.numbers.now d e)

  -- each declared name holds what it held at first, and what the statements give it by what all names hold then
  pub record AreMade (names : List (List ℕ)) (first : List Held) (givens : List Given) (held : List Held) : Type 0 where
    pub all : List ℕ
    pub are_all : Lists nat_cmp (λ v. v < length names) all
    pub made : (d v : ℕ) → held_at held d v ≡ (held_at first d v || list_any (is_made_by meaning_there held all d v) givens)
