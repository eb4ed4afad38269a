-- What tables hold of a policy's levels. CIL Reference Guide, "Multi-Level Security Labeling Statements"; the sections are this project's
-- profile.
use Rattle.std.specs.Prelude.{◌≡◌, ◌↔◌, ◌⊎◌, ℕ, true, List, [], All, Some, length, map, slice_get}
use Rattle.cil_base.specs.Lists.{Lists}
use Rattle.cil_syntax.specs.declared.kind.Kind.{Kind}
use Rattle.cil_syntax.specs.declared.kind.Kind.TheVariants as kinds
use Rattle.cil_syntax.specs.Scopes.{ScopedWord}
use Rattle.cil_macros.specs.Item.{Item, OptSet}
use Rattle.cil_names.specs.Declarations.{Declared, Symbol, name_of}
use Rattle.cil_known.specs.Known.{IsNumbered}
use Rattle.cil_known.specs.Members.{IsMember}
use Rattle.cil_mls.specs.declared.categories.Categories.{Categories}
use Rattle.cil_mls.specs.declared.level.Level.{Level}
use Rattle.cil_mls.specs.declared.level.Range.{Range}
use Rattle.cil_mls.specs.declared.named.Named.{Named}
use Rattle.cil_mls.specs.Bits.{AreWords}
use Rattle.cil_mls.specs.Dominance.{Dominates}
use Rattle.cil_mls.specs.Names.{named_cmp}
use Rattle.cil_mls.specs.OrderFaults.{Switches}
use Rattle.cil_ranges.specs.levels_crate.Permitted.{ArePermitted, IsPermitted}
use Rattle.cil_ranges.specs.Levels.{Ground}
use Rattle.cil_ranges.specs.Steps.{IsGround}
use Rattle.cil_ranges.specs.Users.{GivesRange, IsSameRange}
use Rattle.cil_labels.specs.Labels.{IsLabel}
use Rattle.cil_labels.specs.LevelTable.{IsWritable, LevelTable}

-- ---- aliases

-- the symbol is declared as an alias, and stands for the item at this place of the order
pub record IsAliasAt (xs : List Item) (s : OptSet) (alias_kind kind : Kind) (row : List Symbol) (alias : Symbol) (n : ℕ) : Type 0 where
  pub an_alias : Declared xs s alias_kind alias
  pub item : Symbol
  pub member : IsMember xs s kind alias item
  pub at : slice_get row n ≡ Some item

-- the qualified name of an alias, and the place of the item for which it stands
pub record IsAliasRow (xs : List Item) (s : OptSet) (alias_kind kind : Kind) (row : List Symbol) (a : Named) : Type 0 where
  pub alias : Symbol
  pub is_alias : IsAliasAt xs s alias_kind kind row alias a.place
  pub named : name_of alias ≡ a.name

-- ---- users

module _ (xs : List Item) (s : OptSet) (g : Ground) where
  -- statements give the user this range, and no other
  pub record HasRange (user : Symbol) (r : Range) : Type 0 where
    pub item : Item
    pub word : ScopedWord
    pub gives : GivesRange s g user item word r
    pub only : (x : Item) (w : ScopedWord) (p : Range) → GivesRange s g user x w p → IsSameRange r p

  -- so has each user of this number
  pub record IsRangeRow (users : List (List ℕ)) (n : ℕ) (r : Range) : Type 0 where
    pub has : (user : Symbol) → Declared xs s kinds.User user → IsNumbered users user n → HasRange user r
    pub low : AreWords r.low.categories.words
    pub high : AreWords r.high.categories.words

  -- where levels are on, each user has one; else none has
  pub record AreRangeRows (users : List (List ℕ)) (ranges : List Range) : Type 0 where
    pub off : (Switches xs s true → ⊥) → ranges ≡ []
    pub on : Switches xs s true → length ranges ≡ length users
    pub each : (n : ℕ) (r : Range) → slice_get ranges n ≡ Some r → IsRangeRow users n r

-- ---- all of it

-- what the policy has of levels, over this ground, where users have these names
pub record IsLevelTableOver (xs : List Item) (s : OptSet) (g : Ground) (users : List (List ℕ)) (t : LevelTable) : Type 0 where
  pub on : (t.are_on ≡ true) ↔ Switches xs s true
  pub categories : t.categories ≡ map name_of g.categories
  pub category_aliases : Lists named_cmp (IsAliasRow xs s kinds.CategoryAlias kinds.Category g.categories) t.category_aliases
  pub sensitivities : t.sensitivities ≡ map name_of g.sensitivities
  pub permitted : ArePermitted xs s g.sensitivities g.categories g.values t.permitted
  pub words : All (λ (p : Categories). AreWords p.words) t.permitted
  pub sensitivity_aliases : Lists named_cmp (IsAliasRow xs s kinds.SensitivityAlias kinds.Sensitivity g.sensitivities) t.sensitivity_aliases
  pub ranges : AreRangeRows xs s g users t.users

-- what the policy has of levels
pub record IsLevelTable (xs : List Item) (s : OptSet) (users : List (List ℕ)) (t : LevelTable) : Type 0 where
  pub ground : Ground
  pub is_ground : IsGround xs s ground
  pub over : IsLevelTableOver xs s ground users t

-- ---- contexts

-- the text can be written, and is the qualified name of the item at this place, or of an alias of it
pub record NamesItemAt (xs : List Item) (s : OptSet) (alias_kind kind : Kind) (row : List Symbol) (text : List ℕ) (n : ℕ) : Type 0 where
  pub writable : IsWritable text
  pub symbol : Symbol
  pub named : name_of symbol ≡ text
  pub is : (slice_get row n ≡ Some symbol) ⊎ IsAliasAt xs s alias_kind kind row symbol n

-- the text is the type of a context, with the levels of the context behind it where levels are on
abbrev pub IsLabelBy : List Item → OptSet → Ground → (text kind : List ℕ) → (low high : Level) → Type 0
IsLabelBy xs s g text kind low high =
    IsLabel (Switches xs s true) (NamesItemAt xs s kinds.SensitivityAlias kinds.Sensitivity g.sensitivities)
    (NamesItemAt xs s kinds.CategoryAlias kinds.Category g.categories) (IsPermitted xs s g.sensitivities g.categories g.values) text kind low high

-- an enabled statement gives the user a range in which these levels are: the low one dominates its low level, and its high level dominates
-- the high one
pub record IsClearedBy (s : OptSet) (g : Ground) (user : Symbol) (low high : Level) : Type 0 where
  pub item : Item
  pub word : ScopedWord
  pub range : Range
  pub gives : GivesRange s g user item word range
  pub from : Dominates low range.low
  pub to : Dominates range.high high
