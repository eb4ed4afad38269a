-- Which permissions rules name, as a mask for each class.
use Rattle.std.specs.Prelude.{◌≡◌, ℕ, ◌<◌, List, Contains, IsBitSet, get_or, length}
use Rattle.cil_index.specs.rules.NamedRule.{NamedRule}

-- the masks of classes have all permissions of the rules
abbrev pub AreIn : List NamedRule → List ℕ → Type 0
AreIn rules masks = (r : NamedRule) (bit : ℕ) → Contains rules r → r.class < length masks → IsBitSet r.mask bit → IsBitSet (get_or masks r.class 0) bit

-- the mask of its class has no permission of the rule
pub record IsApart (masks : List ℕ) (r : NamedRule) : Type 0 where
  pub within : r.class < length masks
  pub none : (bit : ℕ) → IsBitSet r.mask bit → IsBitSet (get_or masks r.class 0) bit → ⊥

-- nor any of the rules
abbrev pub AreApart : List ℕ → List NamedRule → Type 0
AreApart masks rules = (r : NamedRule) → Contains rules r → IsApart masks r

-- masks have the permissions of others, and those of a rule on one of their classes
pub record AreJoined (old : List ℕ) (r : NamedRule) (new : List ℕ) : Type 0 where
  pub same : length new ≡ length old
  pub stays : (class_ bit : ℕ) → IsBitSet (get_or old class_ 0) bit → IsBitSet (get_or new class_ 0) bit
  pub added : (bit : ℕ) → r.class < length old → IsBitSet r.mask bit → IsBitSet (get_or new r.class 0) bit
