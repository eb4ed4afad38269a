-- What two rules cover together, by numbers, and the least of it. Types and classes are numbered in the byte order of their names, and so
-- are the permissions of a class, so the least by numbers is the least by names.
use Rattle.std.specs.Prelude.{◌≡◌, ℕ, List, [], ◌∷◌, Contains, IsBitSet, MatchOption, None, Option, Some}
use Rattle.std.specs.Ordering.{on}
use Rattle.std.specs.declared.cmp.Ordering.{Ordering}
use Rattle.std.specs.declared.cmp.Ordering.TheVariants.{Less, Equal, Greater}
use Rattle.cil_base.specs.Lists.{text_cmp}
use Rattle.cil_index.specs.rules.Covers.{Reaches}
use Rattle.cil_index.specs.rules.Rule.{Rule}
use Rattle.cil_neverallow.specs.declared.overlap.Overlap.{Overlap}

-- ---- the order

abbrev pub fields_of : Overlap → List ℕ
fields_of o = o.source ∷ o.target ∷ o.class ∷ o.bit ∷ []

-- by source, then target, then class, then permission
abbrev pub overlap_cmp : Overlap → Overlap → Ordering
overlap_cmp = on fields_of text_cmp

-- it is one of these, and none of them is before it
pub record IsLeastOf (P : Overlap → Type 0) (o : Overlap) : Type 0 where
  pub is : P o
  pub least : (p : Overlap) → P p → overlap_cmp p o ≡ Less → ⊥

-- the least of these, if there are any
abbrev pub IsLeastFor : (Overlap → Type 0) → Option Overlap → Type 0
IsLeastFor P o = MatchOption o ((p : Overlap) → P p → ⊥) (IsLeastOf P)

-- ---- what rules cover

-- the rule covers it, whatever branch the rule is in
pub record Holds (r : Rule) (o : Overlap) : Type 0 where
  pub has_source : Contains r.source o.source
  pub has_target : Reaches r.target o.source o.target
  pub of_class : r.class ≡ o.class
  pub permits : IsBitSet r.mask o.bit

-- some of the rules covers it
pub record HaveIt (rules : List Rule) (o : Overlap) : Type 0 where
  pub rule : Rule
  pub is_rule : Contains rules rule
  pub holds : Holds rule o

-- two rules cover it
pub record BothHold (r q : Rule) (o : Overlap) : Type 0 where
  pub first : Holds r o
  pub second : Holds q o

-- a rule and some of others cover it
pub record IsMet (r : Rule) (others : List Rule) (o : Overlap) : Type 0 where
  pub first : Holds r o
  pub second : HaveIt others o

-- rules of two statements cover it
pub record IsOverlap (forbidden allowed : List Rule) (o : Overlap) : Type 0 where
  pub first : HaveIt forbidden o
  pub second : HaveIt allowed o

-- ---- the lesser of two

abbrev pub pick : Ordering → Overlap → Overlap → Overlap
pick Less x y = y
pick Equal x y = x
pick Greater x y = x

-- the lesser of two, or the one that is there
abbrev pub lesser_of : Option Overlap → Option Overlap → Option Overlap
lesser_of None b = b
lesser_of (Some x) None = Some x
lesser_of (Some x) (Some y) = Some (pick (overlap_cmp y x) x y)
