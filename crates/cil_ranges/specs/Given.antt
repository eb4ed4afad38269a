-- The ranges of users, by the numbers of their entries. No other crate needs these words.
use Rattle.std.specs.Prelude.{◌≡◌, ◌↔◌, ◌⊎◌, ◌<◌, ℕ, Bool, true, false, List, [], ◌∷◌, ◌++◌, Contains, MatchOption, Option, None, Some, get_or, length}
use Rattle.cil_faults.specs.Reported.{fault_at}
use Rattle.cil_faults.specs.declared.code.FaultCode.TheVariants as causes
use Rattle.cil_faults.specs.declared.fault.Fault.{Fault}
use Rattle.cil_syntax.specs.declared.kind.Keyword.TheVariants as keywords
use Rattle.cil_syntax.specs.declared.kind.Kind.TheVariants as kinds
use Rattle.cil_syntax.specs.Scopes.{ScopedWord}
use Rattle.cil_syntax.specs.Terms.{Term, Leaf, Terms, nil, cons}
use Rattle.cil_macros.specs.Item.{Item}
use Rattle.cil_names.specs.Declarations.{Symbol}
use Rattle.cil_known.specs.declared.known.Known.{Known}
use Rattle.cil_known.specs.Known.{enabled_in, meant_in}
use Rattle.cil_mls.specs.attrs.Targets.{IsEntryAt}
use Rattle.cil_mls.specs.declared.level.Range.{Range}
use Rattle.cil_ranges.specs.declared.scale.Ranged.{Ranged}
use Rattle.cil_ranges.specs.declared.giving.Giving.{Giving}
use Rattle.cil_ranges.specs.declared.users.UserRanges.{UserRanges}
use Rattle.cil_ranges.specs.Levels.{Ground, IsRange}
use Rattle.cil_ranges.specs.Reading.{HasLevels, HasRanges, Measures}
use Rattle.cil_ranges.specs.Users.{GivesRange, IsSameRange}

-- ranges are read right, and each term has one
pub record ReadsRanges (k : Known) (by : Ranged) (g : Ground) : Type 0 where
  pub measures : Measures k by.named.scale g
  pub levels : HasLevels k by.named.levels.now g
  pub ranges : HasRanges k by.ranges.now g
  pub one : (t : Term ScopedWord) (r p : Range) → IsRange (enabled_in k) g t r → IsRange (enabled_in k) g t p → IsSameRange r p

-- a word of this meaning names the user with this entry
pub record IsUserEntry (k : Known) (meaning : Option ℕ) (d : ℕ) : Type 0 where
  pub means : meaning ≡ Some d
  pub user : Symbol
  pub entry : IsEntryAt k.lookup.namespaces.now k.lookup.names.now kinds.User d user

module _ (k : Known) (g : Ground) where
  -- some terms say a user, by its entry, and a range
  pub record SaysGiving (us : Terms ScopedWord) (d : ℕ) (r : Range) : Type 0 where
    pub word : ScopedWord
    pub term : Term ScopedWord
    pub says : us ≡ cons (Leaf word) (cons term nil)
    pub user : IsUserEntry k (meant_in k word) d
    pub range : IsRange (enabled_in k) g term r

  -- what they say, or that they say nothing
  abbrev pub IsSaidGiving : Terms ScopedWord → Option Giving → Type 0
  IsSaidGiving us o = MatchOption o ((d : ℕ) (r : Range) → SaysGiving us d r → ⊥) (λ v. SaysGiving us v.user v.range)

  -- the statement gives this range to the user with this entry
  pub record GivesTo (x : Item) (d : ℕ) (r : Range) : Type 0 where
    pub user : Symbol
    pub entry : IsEntryAt k.lookup.namespaces.now k.lookup.names.now kinds.User d user
    pub word : ScopedWord
    pub gives : GivesRange (enabled_in k) g user x word r

  -- what a statement gives, or that it gives nothing
  abbrev pub IsGiving : Item → Option Giving → Type 0
  IsGiving x o = MatchOption o ((d : ℕ) (r : Range) → GivesTo x d r → ⊥) (λ v. GivesTo x v.user v.range)

  -- the statements give users these ranges, and to these users several that differ
  pub record AreGiven (xs : List Item) (all : UserRanges) : Type 0 where
    pub each : (d : ℕ) (r : Range) → get_or all.ranges.items d None ≡ Some r → (x : Item) × Contains xs x × GivesTo x d r
    pub every : (x : Item) (d : ℕ) (r : Range) → Contains xs x → GivesTo x d r → (p : Range) × (get_or all.ranges.items d None ≡ Some p) × (IsSameRange p r ⊎ (get_or all.differing.items d false ≡ true))
    pub two : (d : ℕ) → get_or all.differing.items d false ≡ true
        → (x : Item) × (y : Item) × (r : Range) × (p : Range) × Contains xs x × Contains xs y × GivesTo x d r × GivesTo y d p × (IsSameRange r p → ⊥)

-- the user is one of the declared names
abbrev pub IsUserWithin : Known → Option Giving → Type 0
IsUserWithin k o = MatchOption o (Unit {0}) (λ v. v.user < length k.lookup.names.now)

-- so it is of what a statement gives, which is one that gives ranges
pub record IsThere (k : Known) (x : Item) (v : Giving) : Type 0 where
  pub within : v.user < length k.lookup.names.now
  pub gives : x.keyword ≡ keywords.UserRange

abbrev pub IsGivenThere : Known → Item → Option Giving → Type 0
IsGivenThere k x o = MatchOption o (Unit {0}) (IsThere k x)

-- there is room for each entry
pub record HasRoom (k : Known) (all : UserRanges) : Type 0 where
  pub of_ranges : length all.ranges.items ≡ length k.lookup.names.now
  pub of_differing : length all.differing.items ≡ length k.lookup.names.now

-- one range more of one user: the first is kept, and that another differs
pub record IsGivenOne (v : Giving) (old new : UserRanges) : Type 0 where
  pub ranges_len : length new.ranges.items ≡ length old.ranges.items
  pub differing_len : length new.differing.items ≡ length old.differing.items
  pub others : (d : ℕ) → (d ≡ v.user → ⊥) → (get_or new.ranges.items d None ≡ get_or old.ranges.items d None) × (get_or new.differing.items d false ≡ get_or old.differing.items d false)
  pub first : get_or old.ranges.items v.user None ≡ None → (get_or new.ranges.items v.user None ≡ Some v.range) × (get_or new.differing.items v.user false ≡ get_or old.differing.items v.user false)
  pub further : (r : Range) → get_or old.ranges.items v.user None ≡ Some r
      → (get_or new.ranges.items v.user None ≡ Some r)
      × ((IsSameRange r v.range × (get_or new.differing.items v.user false ≡ get_or old.differing.items v.user false)) ⊎ ((IsSameRange r v.range → ⊥) × (get_or new.differing.items v.user false ≡ true)))

-- what one statement gives is added
abbrev pub IsGivenBy : Known → Ground → Item → UserRanges → UserRanges → Type 0
IsGivenBy k g x old new = (xs : List Item) → AreGiven k g xs old → AreGiven k g (xs ++ x ∷ []) new

-- ---- what is told

-- the statement gives a range to a user that is flagged
pub record IsToldTwice (k : Known) (g : Ground) (differing : List Bool) (x : Item) (f : Fault) : Type 0 where
  pub entry : ℕ
  pub range : Range
  pub gives : GivesTo k g x entry range
  pub flagged : get_or differing entry false ≡ true
  pub told : f ≡ fault_at causes.UserRangeTwice gives.word.at x.space gives.word.bytes

-- the flags are those of the names that have nothing
abbrev pub AreWithout : List (Option Range) → List Bool → Type 0
AreWithout ranges flags = (d : ℕ) → d < length ranges → (get_or flags d false ≡ true) ↔ (get_or ranges d None ≡ None)
