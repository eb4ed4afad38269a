-- What is wrong with levels and ranges. CIL Reference Guide, "sensitivitycategory", "levelrange" and "Expressions"; which of it is a
-- fault is this project's profile.
use Rattle.std.specs.Prelude.{◌≡◌, ℕ, ◌<◌, true, []}
use Rattle.cil_faults.specs.Namespaces.{Namespace}
use Rattle.cil_faults.specs.Reported.{fault_at}
use Rattle.cil_faults.specs.declared.code.FaultCode.TheVariants as causes
use Rattle.cil_faults.specs.declared.fault.Fault.{Fault}
use Rattle.cil_faults.specs.declared.spot.Spot.{Spot}
use Rattle.cil_syntax.specs.declared.term.Op.TheVariants as ops
use Rattle.cil_syntax.specs.Scopes.{ScopedWord}
use Rattle.cil_syntax.specs.Terms.{Term, Leaf, Form, Terms, nil, cons}
use Rattle.cil_macros.specs.Item.{Item, OptSet, is_enabled}
use Rattle.cil_mls.specs.declared.level.Range.{Range}
use Rattle.cil_mls.specs.Dominance.{Dominates}
use Rattle.cil_levels.specs.Permitted.{IsPermitted}
use Rattle.cil_levels.specs.Places.{IsCategoryAt}
use Rattle.cil_ranges.specs.Inside.{IsInside, says_levels}
use Rattle.cil_ranges.specs.Levels.{Ground, IsSensitivityAt, SaysRange, in_behind}

module _ (s : OptSet) (g : Ground) where
  -- some enabled statement permits the category to the sensitivity
  abbrev pub Permits : ℕ → ℕ → Type 0
  Permits n c = IsPermitted g.items s g.sensitivities g.categories g.values n c

  -- what these terms say as a level has a category that its sensitivity does not permit; the word names that sensitivity
  pub record IsUnpermitted (ts : Terms ScopedWord) (w : ScopedWord) : Type 0 where
    pub rest : Terms ScopedWord
    pub says : ts ≡ cons (Leaf w) rest
    pub sensitivity : ℕ
    pub is_sensitivity : IsSensitivityAt s g w sensitivity
    pub category : ℕ
    pub below : category < 1024
    pub has : in_behind s g rest category ≡ true
    pub not_permitted : Permits sensitivity category → ⊥

  -- of what they say as a range of levels, the high level does not dominate the low one
  pub record IsTurned (ts : Terms ScopedWord) : Type 0 where
    pub range : Range
    pub says : SaysRange s g ts range
    pub falls : Dominates range.high range.low → ⊥

  -- of what they say as a range of categories, the second is before the first
  pub record IsBackwards (ts : Terms ScopedWord) : Type 0 where
    pub from : ScopedWord
    pub to : ScopedWord
    pub says : ts ≡ cons (Leaf from) (cons (Leaf to) nil)
    pub first : ℕ
    pub last : ℕ
    pub is_first : IsCategoryAt g.items s g.categories from first
    pub is_last : IsCategoryAt g.items s g.categories to last
    pub falls : last < first

  -- what is wrong with a term itself, where it stands in this namespace
  pub data TermFault (space : Namespace) (f : Fault) (t : Term ScopedWord) : Type 0 where
    level_category : (at : Spot) (ts : Terms ScopedWord) (w : ScopedWord) → t ≡ Form at ops.Level ts → IsUnpermitted ts w → f ≡ fault_at causes.LevelCategory w.at space w.bytes → TermFault space f t
    levels_turned : (at : Spot) (ts : Terms ScopedWord) → t ≡ Form at ops.LevelRange ts → IsTurned ts → f ≡ fault_at causes.RangeOrder at space [] → TermFault space f t
    categories_turned : (at : Spot) (ts : Terms ScopedWord) → t ≡ Form at ops.Range ts → IsBackwards ts → f ≡ fault_at causes.RangeOrder at space [] → TermFault space f t

  -- what is wrong with a term inside of these
  pub record IsFaultInside (space : Namespace) (ts : Terms ScopedWord) (f : Fault) : Type 0 where
    pub term : Term ScopedWord
    pub inside : IsInside term ts
    pub wrong : TermFault space f term

  -- what is wrong with a level or a range in what an enabled statement says
  pub record IsFaultSaid (x : Item) (f : Fault) : Type 0 where
    pub enabled : is_enabled s x ≡ true
    pub levels : says_levels x.keyword ≡ true
    pub wrong : IsFaultInside x.space x.args f
