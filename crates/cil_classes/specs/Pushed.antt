-- The masks of the classes of which some nodes have permissions, put behind others. No other crate needs these words.
use Rattle.std.specs.Prelude.{◌≡◌, ◌↔◌, ◌⊎◌, ◌++◌, ◌∷◌, [], ℕ, List, Contains, IsBitSet, map}
use Rattle.std.specs.Ordering.{nat_cmp, on}
use Rattle.std.specs.List.Sorted.{IsStrictlySortedBy}
use Rattle.cil_settle.specs.Spread.{mask_at}
use Rattle.cil_classes.specs.declared.assigned.Part.{Part}
use Rattle.cil_classes.specs.declared.held.ClassMasks.{ClassMasks}
use Rattle.cil_classes.specs.declared.row.ClassId.{ClassId}

-- some of the nodes has the bit
pub record IsInSome (masks from : List ℕ) (bit : ℕ) : Type 0 where
  pub node : ℕ
  pub among : Contains from node
  pub set : IsBitSet (mask_at masks node) bit

-- the mask has the bits that some of the nodes has
abbrev pub IsUnionOf : List ℕ → List ℕ → ℕ → Type 0
IsUnionOf masks from mask = (bit : ℕ) → IsBitSet mask bit ↔ IsInSome masks from bit

-- the class with its mask was put behind others, unless the mask has no bit
pub record IsPushed (one : ClassMasks) (from : List ℕ) (old new : List (ClassId × ℕ)) : Type 0 where
  pub mask : ℕ
  pub union : IsUnionOf one.masks.items from mask
  pub behind : ((mask ≡ 0) × (new ≡ old)) ⊎ ((mask ≡ 0 → ⊥) × (new ≡ old ++ (record { number = one.class }, mask) ∷ []))

-- these are the masks of the classes of which some of the nodes has permissions
pub record AreUnions (held : List ClassMasks) (from : List ℕ) (masks : List (ClassId × ℕ)) : Type 0 where
  pub each : (m : ClassId × ℕ) → Contains masks m → (h : ClassMasks) × Contains held h × (m.0.number ≡ h.class) × IsUnionOf h.masks.items from m.1 × (m.1 ≡ 0 → ⊥)
  pub all : (h : ClassMasks) (bit : ℕ) → Contains held h → IsInSome h.masks.items from bit → (m : ClassId × ℕ) × Contains masks m × (m.0.number ≡ h.class)
  pub rising : IsStrictlySortedBy nat_cmp (map (λ (h : ClassMasks). h.class) held) → IsStrictlySortedBy (on (λ (m : ClassId × ℕ). m.0.number) nat_cmp) masks

-- they were put behind others
pub record ArePushed (held : List ClassMasks) (from : List ℕ) (old new : List (ClassId × ℕ)) : Type 0 where
  pub masks : List (ClassId × ℕ)
  pub are : AreUnions held from masks
  pub behind : new ≡ old ++ masks

-- what a part gives was put behind others: its own permissions, or those of its nodes
abbrev pub IsPartPushed : List ClassMasks → Part → (old new : List (ClassId × ℕ)) → Type 0
IsPartPushed held part old new = ((part.mask ≡ 0) × ArePushed held part.from.items old new) ⊎ ((part.mask ≡ 0 → ⊥) × (new ≡ old ++ (record { number = part.class }, part.mask) ∷ []))
