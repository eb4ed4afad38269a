-- What levels rest on in a policy, and all that is wrong with levels. This project's profile.
use Rattle.std.specs.Prelude.{◌≡◌, ℕ, List, Contains, None, Option, Some, get_or}
use Rattle.cil_faults.specs.declared.fault.Fault.{Fault}
use Rattle.cil_syntax.specs.declared.kind.Keyword.TheVariants as keywords
use Rattle.cil_syntax.specs.declared.kind.Kind.TheVariants as kinds
use Rattle.cil_macros.specs.Item.{Item, OptSet}
use Rattle.cil_names.specs.Declarations.{Symbol}
use Rattle.cil_known.specs.declared.known.Known.{Known}
use Rattle.cil_known.specs.Known.{enabled_in}
use Rattle.cil_mls.specs.Ordering.{IsTheOrder}
use Rattle.cil_mls.specs.declared.level.Range.{Range}
use Rattle.cil_levels.specs.Permitted.{ArePermitted}
use Rattle.cil_levels.specs.Values.{AreValues, IsRanked}
use Rattle.cil_ranges.specs.declared.levels.Levels.{Levels}
use Rattle.cil_ranges.specs.Given.{GivesTo}
use Rattle.cil_ranges.specs.LevelFaults.{IsFaultSaid}
use Rattle.cil_ranges.specs.Levels.{Ground}
use Rattle.cil_ranges.specs.Reading.{HasLevels, HasRanges}
use Rattle.cil_ranges.specs.Users.{HasNoRange, HasTwoRanges, IsSameRange}

-- these are the statements, their one order of sensitivities and of categories, and what their words and sets of categories have; no set
-- depends on itself, which ranks show, so there is one such ground alone
pub record IsGround (xs : List Item) (s : OptSet) (g : Ground) : Type 0 where
  pub items : g.items ≡ xs
  pub sensitivities : IsTheOrder xs s kinds.Sensitivity keywords.SensitivityOrder g.sensitivities
  pub categories : IsTheOrder xs s kinds.Category keywords.CategoryOrder g.categories
  pub values : AreValues xs s g.categories g.values
  pub ranked : (rank : Symbol → ℕ) × IsRanked xs s rank

-- all that is wrong with levels
pub data LevelFault (s : OptSet) (g : Ground) (f : Fault) : Type 0 where
  said : (x : Item) → Contains g.items x → IsFaultSaid s g x f → LevelFault s g f
  two_ranges : HasTwoRanges s g f → LevelFault s g f
  no_range : HasNoRange s g f → LevelFault s g f

-- for each user, by its entry, the range that a statement gives it; where several do, theirs is the same
pub record AreUserRanges (k : Known) (g : Ground) (users : List (Option Range)) : Type 0 where
  pub each : (d : ℕ) (r : Range) → get_or users d None ≡ Some r → (x : Item) × GivesTo k g x d r
  pub every : (x : Item) (d : ℕ) (r : Range) → GivesTo k g x d r → (p : Range) × (get_or users d None ≡ Some p) × IsSameRange p r

-- the levels of a policy
pub record AreLevels (k : Known) (g : Ground) (l : Levels) : Type 0 where
  pub permitted : ArePermitted g.items (enabled_in k) g.sensitivities g.categories g.values l.permitted.items
  pub levels : HasLevels k l.levels.items g
  pub ranges : HasRanges k l.ranges.items g
  pub users : AreUserRanges k g l.users.items
