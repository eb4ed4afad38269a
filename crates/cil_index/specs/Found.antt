-- What the rule at a place covers, and by which aims the rules that cover something are found.
use Rattle.std.specs.Prelude.{◌≡◌, ◌<◌, ◌≤◌, ◌+◌, ◌-◌, ◌/◌, ◌⊎◌, ℕ, Bool, true, List, [], Contains, IsBitSet, Some, get_or, slice_get}
use Rattle.cil_rules.specs.conditions.Active.{is_active}
use Rattle.cil_rules.specs.Rule.{Rule}
use Rattle.cil_rules.specs.Covers.{Covers, Reaches}
use Rattle.cil_index.specs.declared.asked.Aims.{Aims}
use Rattle.cil_index.specs.declared.asked.Asked.{Asked}
use Rattle.cil_index.specs.declared.asked.Step.{Step}
use Rattle.cil_index.specs.declared.asked.Step.TheVariants as steps
use Rattle.cil_index.specs.declared.index.Index.{Index}
use Rattle.cil_index.specs.declared.memberships.Memberships.{Memberships}
use Rattle.cil_index.specs.Entries.{IsInPart, aim_of, alone_key, beyond, in_class, itself, part_of, set_key, several}
use Rattle.cil_index.specs.Memberships.{HasBit, IsFilter, IsKnownFor}

-- the rule at the place covers the permission
pub record CoversAt (on : ℕ → Bool) (rules : List Rule) (source target class_ place bit : ℕ) : Type 0 where
  pub rule : Rule
  pub is_there : slice_get rules place ≡ Some rule
  pub covers : Covers on rule source target class_ bit

-- the rule counts, and is on the class and on this pair of types
pub record Matches (on : ℕ → Bool) (r : Rule) (source target class_ : ℕ) : Type 0 where
  pub active : is_active on r.branch ≡ true
  pub has_source : Contains r.source source
  pub has_target : Reaches r.target source target
  pub of_class : r.class ≡ class_

-- the same question with each type in the place of the other
abbrev pub turned : Asked → Asked
turned asked = record { source = asked.target; target = asked.source; class = asked.class }

-- what stands so may have the target: it is this type alone, or the source, or a set that is known for the type
abbrev pub MayReach : Memberships → Asked → ℕ → Type 0
MayReach m asked key = (key ≡ alone_key asked.target) ⊎ (((key ≡ itself) × (asked.source ≡ asked.target)) ⊎ ((n : ℕ) × (key ≡ set_key n) × IsKnownFor m asked.target n))

-- what is searched for, and a test of the sets that may have the target
pub record AreAims (m : Memberships) (asked : Asked) (aims : Aims) : Type 0 where
  pub alone_is : aims.alone ≡ aim_of (in_class asked.class) (alone_key asked.target)
  pub several_is : aims.several ≡ aim_of (in_class asked.class) several
  pub small_below : aims.small ≤ m.first_large
  pub sets_below : several + aims.small ≤ beyond
  pub last_low : aim_of (in_class asked.class) beyond ≤ aims.last
  pub last_high : aims.last ≤ aim_of (in_class asked.class) itself
  pub last_own : asked.source ≡ asked.target → aims.last ≡ aim_of (in_class asked.class) itself
  pub filtered : IsFilter (get_or m.lists.items asked.target []) aims.filter

-- the aims are of a class
pub record AreOfClass (class_ : ℕ) (aims : Aims) : Type 0 where
  pub alone_in : aims.alone / 4194304 ≡ class_
  pub alone_below : aims.alone < aims.several
  pub several_is : aims.several ≡ aim_of class_ several
  pub last_high : aims.last ≤ aim_of class_ itself

-- the aim is among those that are not one type, and no test tells that it lacks the type: a small set has its bit
pub record IsAmongSeveral (aims : Aims) (aim : ℕ) : Type 0 where
  pub low : aims.several ≤ aim
  pub high : aim ≤ aims.last
  pub small : aim < aims.several + aims.small → HasBit aims.filter (aim - aims.several)

-- the aim is that of one type alone
abbrev pub IsTheAlone : Aims → ℕ → Type 0
IsTheAlone aims aim = aim ≡ aims.alone

-- a search has to read the rule of this aim
abbrev pub Leads : Aims → ℕ → Type 0
Leads aims aim = IsTheAlone aims aim ⊎ IsAmongSeveral aims aim

-- what a search among the aims of several types does at an aim: it ends behind the last one, and passes only what does not lead
abbrev pub IsStep : Aims → ℕ → Step → Type 0
IsStep aims aim steps.Read = Unit {0}
IsStep aims aim steps.Pass = IsAmongSeveral aims aim → ⊥
IsStep aims aim steps.End = aims.last < aim

-- the mask has what the rules of this heading cover on what is asked whose aims are such
abbrev pub Hands : (ℕ → Bool) → List Rule → (ℕ → Type 0) → Asked → Index → (heading mask : ℕ) → Type 0
Hands on rules leads asked index heading mask =
    (at bit : ℕ) → IsInPart index.starts.items (part_of heading (get_or index.aims.items at 0)) at → leads (get_or index.aims.items at 0)
    → CoversAt on rules asked.source asked.target asked.class at bit → IsBitSet mask bit

-- and what the aims between two places cover
abbrev pub HasAllOf : (ℕ → Bool) → List Rule → (ℕ → Type 0) → Asked → Index → (start end mask : ℕ) → Type 0
HasAllOf on rules leads asked index start end mask =
    (at bit : ℕ) → start ≤ at → at < end → leads (get_or index.aims.items at 0) → CoversAt on rules asked.source asked.target asked.class at bit → IsBitSet mask bit

-- and what some headings cover
abbrev pub HandOver : (ℕ → Bool) → List Rule → (ℕ → Type 0) → Asked → Index → (ℕ → Type 0) → ℕ → Type 0
HandOver on rules leads asked index among mask = (n : ℕ) → among n → Hands on rules leads asked index n mask
