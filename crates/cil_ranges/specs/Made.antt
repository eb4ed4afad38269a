-- How the levels of a policy are made. No other crate needs these words.
use Rattle.std.specs.Prelude.{◌≡◌, ◌↔◌, ℕ, ◌<◌, List, Contains, Result, Ok, Err, Some}
use Rattle.cil_faults.specs.Fails.{AreFaults}
use Rattle.cil_faults.specs.declared.failure.Failure.{Failure}
use Rattle.cil_faults.specs.declared.failure.Failure.TheVariants.{Faults, NoMemory}
use Rattle.cil_faults.specs.declared.fault.Fault.{Fault}
use Rattle.cil_syntax.specs.Scopes.{ScopedWord}
use Rattle.cil_syntax.specs.Terms.{Term}
use Rattle.cil_macros.specs.Item.{Item, OptSet}
use Rattle.cil_names.specs.Declarations.{Symbol}
use Rattle.cil_known.specs.declared.known.Known.{Known}
use Rattle.cil_known.specs.Known.{enabled_in, meant_in}
use Rattle.cil_mls.specs.Values.{in_term}
use Rattle.cil_levels.specs.Held.{AreHeld, HoldCategories}
use Rattle.cil_levels.specs.Permitted.{ArePermitted}
use Rattle.cil_levels.specs.Sensitivities.{ArePlaces}
use Rattle.cil_levels.specs.Values.{Values, in_value}
use Rattle.cil_ranges.specs.declared.levels.Found.{Found}
use Rattle.cil_ranges.specs.declared.levels.Levels.{Levels}
use Rattle.cil_ranges.specs.declared.levels.Measured.{Measured}
use Rattle.cil_ranges.specs.declared.levels.Tables.{Tables}
use Rattle.cil_ranges.specs.declared.scale.Scale.{Scale}
use Rattle.cil_ranges.specs.Levels.{Ground, IsSensitivityAt}
use Rattle.cil_ranges.specs.Reading.{HasLevels, HasRanges, meant}
use Rattle.cil_ranges.specs.Steps.{AreLevels, AreUserRanges, IsGround, LevelFault}

-- what is measured by is right, by some values that solve the equations of sets
pub record AreMeasured (k : Known) (xs : List Item) (sensitivities categories : List Symbol) (m : Measured) : Type 0 where
  pub values : Values
  pub held : AreHeld k xs categories m.held.items values
  pub places : ArePlaces k xs sensitivities m.sensitivities.items
  pub permitted : ArePermitted xs (enabled_in k) sensitivities categories values m.permitted.items

-- levels are measured right by this, where there are so many categories
pub record MeasuresAs (k : Known) (m : Measured) (count : ℕ) (g : Ground) : Type 0 where
  pub sensitivities : (w : ScopedWord) (n : ℕ) → IsSensitivityAt (enabled_in k) g w n ↔ (meant m.sensitivities.items (meant_in k w) ≡ Some n)
  pub categories : HoldCategories k g.items g.categories m.held.items
  pub values : (e : Term ScopedWord) (c : ℕ) → c < 1024 → in_term m.held.items count (meant_in k) c e ≡ in_value g.categories g.values e c

-- the same as it is handed on
pub record IsScaleOf (m : Measured) (count : ℕ) (by : Scale) : Type 0 where
  pub count_is : by.categories.count ≡ count
  pub held : by.categories.held.now ≡ m.held.items
  pub sensitivities : by.sensitivities.now ≡ m.sensitivities.items

-- what sensitivities permit
abbrev pub IsPermittedBy : Known → Ground → Measured → Type 0
IsPermittedBy k g m = ArePermitted g.items (enabled_in k) g.sensitivities g.categories g.values m.permitted.items

-- what names of levels and ranges stand for
pub record AreTables (k : Known) (g : Ground) (t : Tables) : Type 0 where
  pub levels : HasLevels k t.levels.items g
  pub ranges : HasRanges k t.ranges.items g

-- these are all that is wrong
abbrev pub AreAllFaults : OptSet → Ground → List Fault → Type 0
AreAllFaults s g faults = (f : Fault) → Contains faults f ↔ LevelFault s g f

-- what was found: the ranges of users, and all that is wrong
pub record IsFound (k : Known) (g : Ground) (found : Found) : Type 0 where
  pub users : ((f : Fault) → LevelFault (enabled_in k) g f → ⊥) → AreUserRanges k g found.users.ranges.items
  pub faults : AreAllFaults (enabled_in k) g found.faults.items

-- by what there is in the policy: its levels, and nothing is wrong with them; or just what is wrong; or memory ran out
abbrev pub IsAnswered : Known → List Item → Result Levels Failure → Type 0
IsAnswered k xs (Ok l) = (g : Ground) × IsGround xs (enabled_in k) g × AreLevels k g l × ((f : Fault) → LevelFault (enabled_in k) g f → ⊥)
IsAnswered k xs (Err (Faults faults)) = (g : Ground) × IsGround xs (enabled_in k) g × AreFaults (LevelFault (enabled_in k) g) faults
IsAnswered k xs (Err NoMemory) = Unit {0}
