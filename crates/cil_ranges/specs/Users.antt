-- The ranges of users, and what is wrong with them. CIL Reference Guide, "userrange"; that each user has just one where levels are on is
-- this project's profile.
use Rattle.std.specs.Prelude.{◌≡◌, ℕ, true, List, Contains}
use Rattle.cil_faults.specs.Reported.{fault_at}
use Rattle.cil_faults.specs.declared.code.FaultCode.TheVariants as causes
use Rattle.cil_faults.specs.declared.fault.Fault.{Fault}
use Rattle.cil_faults.specs.declared.spot.Spot.{Spot}
use Rattle.cil_syntax.specs.declared.kind.Keyword.TheVariants as keywords
use Rattle.cil_syntax.specs.declared.kind.Kind.TheVariants as kinds
use Rattle.cil_syntax.specs.Scopes.{ScopedWord}
use Rattle.cil_syntax.specs.Terms.{Term, Leaf, nil, cons}
use Rattle.cil_macros.specs.Item.{Item, OptSet, is_enabled}
use Rattle.cil_names.specs.Declarations.{Symbol}
use Rattle.cil_known.specs.Spaces.{names}
use Rattle.cil_mls.specs.attrs.SetFaults.{DeclaresAt, symbol_under}
use Rattle.cil_mls.specs.declared.level.Range.{Range}
use Rattle.cil_mls.specs.Dominance.{AreSame}
use Rattle.cil_mls.specs.OrderFaults.{Switches}
use Rattle.cil_ranges.specs.Levels.{Ground, IsRange}

-- their low levels are the same, and their high ones
pub record IsSameRange (a b : Range) : Type 0 where
  pub low : AreSame a.low b.low
  pub high : AreSame a.high b.high

module _ (s : OptSet) (g : Ground) where
  -- the statement is an enabled one that gives the user this range; its word for the user stands here
  pub record GivesRange (user : Symbol) (x : Item) (word : ScopedWord) (r : Range) : Type 0 where
    pub is_item : Contains g.items x
    pub enabled : is_enabled s x ≡ true
    pub gives : x.keyword ≡ keywords.UserRange
    pub term : Term ScopedWord
    pub says : x.args ≡ cons (Leaf word) (cons term nil)
    pub names_user : names g.items s kinds.User word user ≡ true
    pub range : IsRange s g term r

  module _ (f : Fault) where
    -- where levels are on, a user to which no statement gives a range, told where it is declared
    pub record HasNoRange : Type 0 where
      pub on : Switches g.items s true
      pub item : Item
      pub at : Spot
      pub name : List ℕ
      pub declares : DeclaresAt g.items s kinds.User item at name
      pub none : (x : Item) (word : ScopedWord) (r : Range) → GivesRange (symbol_under item name) x word r → ⊥
      pub told : f ≡ fault_at causes.UserNoRange at item.space name

    -- a user to which two statements give ranges that differ, told where any statement gives it one
    pub record HasTwoRanges : Type 0 where
      pub user : Symbol
      pub item : Item
      pub word : ScopedWord
      pub range : Range
      pub gives : GivesRange user item word range
      pub one : Item
      pub one_word : ScopedWord
      pub one_range : Range
      pub one_gives : GivesRange user one one_word one_range
      pub other : Item
      pub other_word : ScopedWord
      pub other_range : Range
      pub other_gives : GivesRange user other other_word other_range
      pub differ : IsSameRange one_range other_range → ⊥
      pub told : f ≡ fault_at causes.UserRangeTwice word.at item.space word.bytes
