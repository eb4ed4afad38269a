-- What a search for rules is given, and what it hands over.
use Rattle.std.specs.Prelude.{ℕ, Contains, IfSome, IsBitSet, Option}
use Rattle.cil_rules.specs.conditions.Bits.{is_on}
use Rattle.cil_rules.specs.Covers.{HasCover}
use Rattle.cil_index.specs.declared.cover.Search.{Search}
use Rattle.cil_index.specs.Entries.{IsLaidOut, in_class}
use Rattle.cil_index.specs.Found.{AreOfClass, CoversAt, HandOver, Hands, HasAllOf, IsAmongSeveral, Leads}
use Rattle.cil_index.specs.Memberships.{AreMemberships}
use Rattle.cil_index.specs.Searched.{rules_in}
use Rattle.cil_index.specs.Sets.{set_of}

-- its index is laid out, its memberships are those of its sets, and its aims are of the class that is asked
pub record IsSearch (s : Search) : Type 0 where
  pub laid_out : IsLaidOut s.index.now
  pub memberships : AreMemberships s.searched.now.sets.now s.searched.now.memberships.now
  pub aims : AreOfClass (in_class s.asked.now.class) s.aims.now

-- the mask has nothing that no rule covers
abbrev pub IsSound : Search → ℕ → Type 0
IsSound s mask = (bit : ℕ) → IsBitSet mask bit → HasCover (is_on s.settings.now) (rules_in s.searched.now) s.asked.now.source s.asked.now.target s.asked.now.class bit

-- the rule at a place covers the permission
abbrev pub CoversIn : Search → (place bit : ℕ) → Type 0
CoversIn s place bit = CoversAt (is_on s.settings.now) (rules_in s.searched.now) s.asked.now.source s.asked.now.target s.asked.now.class place bit

-- the mask has what the rules under a heading cover
abbrev pub HandsAllIn : Search → (heading mask : ℕ) → Type 0
HandsAllIn s heading mask = Hands (is_on s.settings.now) (rules_in s.searched.now) (Leads s.aims.now) s.asked.now s.index.now heading mask

-- the mask has what those rules under a heading cover whose other side is several types
abbrev pub HandsIn : Search → (heading mask : ℕ) → Type 0
HandsIn s heading mask = Hands (is_on s.settings.now) (rules_in s.searched.now) (IsAmongSeveral s.aims.now) s.asked.now s.index.now heading mask

-- and those of some headings
abbrev pub HandOverIn : Search → (ℕ → Type 0) → ℕ → Type 0
HandOverIn s among mask = HandOver (is_on s.settings.now) (rules_in s.searched.now) (IsAmongSeveral s.aims.now) s.asked.now s.index.now among mask

-- the mask has what the rules of some aims cover that are such
abbrev pub HasRun : Search → (ℕ → Type 0) → (start end mask : ℕ) → Type 0
HasRun s leads start end mask = HasAllOf (is_on s.settings.now) (rules_in s.searched.now) leads s.asked.now s.index.now start end mask

-- a set that is known by its number has the source
abbrev pub IsKnownSource : Search → Option ℕ → Type 0
IsKnownSource s known = IfSome known (λ k. Contains (set_of s.searched.now.sets.now k) s.asked.now.source)
