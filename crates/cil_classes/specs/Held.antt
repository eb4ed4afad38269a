-- Which permissions of which classes nodes have, as it is kept: the masks of each class. No other crate needs these words.
use Rattle.std.specs.Prelude.{◌≡◌, ℕ, List, Contains, IsBitSet, map}
use Rattle.std.specs.Ordering.{nat_cmp}
use Rattle.std.specs.List.Sorted.{IsStrictlySortedBy}
use Rattle.cil_settle.specs.Spread.{mask_at}
use Rattle.cil_macros.specs.Item.{Item}
use Rattle.cil_names.specs.Declarations.{Symbol}
use Rattle.cil_known.specs.declared.known.Known.{Known}
use Rattle.cil_known.specs.Known.{enabled_in}
use Rattle.cil_classes.specs.declared.assigned.Given.{Given}
use Rattle.cil_classes.specs.declared.held.GivenPermissions.{GivenPermissions}
use Rattle.cil_classes.specs.declared.held.ClassMasks.{ClassMasks}
use Rattle.cil_classes.specs.declared.nodes.Node.{Node}
use Rattle.cil_classes.specs.declared.row.Class.{Class}
use Rattle.cil_classes.specs.Assigned.{AreMasks}
use Rattle.cil_classes.specs.Given.{Holder}
use Rattle.cil_classes.specs.Least.{Holds}
use Rattle.cil_classes.specs.NodeOrder.{node_cmp}
use Rattle.cil_classes.specs.Nodes.{IsBitOf, IsNodeIn}
use Rattle.cil_classes.specs.Parts.{AreNodes}
use Rattle.cil_classes.specs.Tied.{IsThere}

-- the masks of each class of which some statement gives permissions, classes rising
pub record AreHeld (givens : List Given) (count : ℕ) (held : List ClassMasks) : Type 0 where
  pub rising : IsStrictlySortedBy nat_cmp (map (λ (h : ClassMasks). h.class) held)
  pub each : (h : ClassMasks) → Contains held h → AreMasks givens h.class count h.masks.items
  pub all : (g : Given) → Contains givens g → (g.part.mask ≡ 0 → ⊥) → (h : ClassMasks) × Contains held h × (h.class ≡ g.part.class)

-- what a bit of the mask of a node says: the holder for which the node stands has the permission
pub record IsSaidBit (k : Known) (xs : List Item) (rows : List Class) (nodes : List Node) (class_ v bit : ℕ) : Type 0 where
  pub holder : Holder
  pub symbol : Symbol
  pub permission : List ℕ
  pub node : IsNodeIn k nodes v holder
  pub is_bit : IsBitOf xs (enabled_in k) rows class_ bit symbol permission
  pub holds : Holds xs (enabled_in k) holder symbol permission

-- the masks of a class of which the holder has the permission
pub record IsHeldIn (xs : List Item) (k : Known) (rows : List Class) (held : List ClassMasks) (c : Symbol) (p : List ℕ) : Type 0 where
  pub masks : ClassMasks
  pub among : Contains held masks
  pub bit : ℕ
  pub is_bit : IsBitOf xs (enabled_in k) rows masks.class bit c p

-- all that is given to class permissions and to permissions of class maps is kept, and nothing else
pub record IsAssigned (k : Known) (xs : List Item) (rows : List Class) (a : GivenPermissions) : Type 0 where
  pub nodes_rise : IsStrictlySortedBy node_cmp a.nodes.items
  pub are_nodes : AreNodes k a.nodes.items
  pub rising : IsStrictlySortedBy nat_cmp (map (λ (h : ClassMasks). h.class) a.held.items)
  pub said : (h : ClassMasks) (v bit : ℕ) → Contains a.held.items h → IsBitSet (mask_at h.masks.items v) bit → IsSaidBit k xs rows a.nodes.items h.class v bit
  pub bits : (h : ClassMasks) (v bit : ℕ) (holder : Holder) (c : Symbol) (p : List ℕ) → Contains a.held.items h → IsNodeIn k a.nodes.items v holder
      → IsBitOf xs (enabled_in k) rows h.class bit c p → Holds xs (enabled_in k) holder c p → IsBitSet (mask_at h.masks.items v) bit
  pub all : (holder : Holder) (c : Symbol) (p : List ℕ) → IsThere xs (enabled_in k) holder → Holds xs (enabled_in k) holder c p
      → ((v : ℕ) × IsNodeIn k a.nodes.items v holder) × IsHeldIn xs k rows a.held.items c p
