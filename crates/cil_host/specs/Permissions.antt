-- The permissions of a class of modules, by their bits. This project's profile.
use Rattle.std.specs.Prelude.{◌≡◌, ◌↔◌, ℕ, ◌<◌, true, List, slice_get, Some}
use Rattle.std.specs.declared.cmp.Ordering.TheVariants.{Less}
use Rattle.cil_base.specs.Lists.{Lists, text_cmp}
use Rattle.cil_syntax.specs.declared.kind.Kind.TheVariants as kinds
use Rattle.cil_table_bytes.specs.names_crate.Declarations.{Declared, Symbol, name_of}
use Rattle.cil_table_bytes.specs.macros.Item.{Item, OptSet}
use Rattle.cil_table_bytes.specs.names_crate.Resolves.{has_permission}
use Rattle.cil_table_bytes.specs.optionals.Policy.{ArePolicy}
use Rattle.cil_host.specs.Machine.{OfLoaded, State}

-- the class of this name has this permission at this place of the byte order of its permissions
pub record IsPermissionOf (class_name : List ℕ) (bit : ℕ) (permission : List ℕ) (modules : List (List ℕ)) : Type 0 where
  pub items : List Item
  pub enabled : OptSet
  pub class_ : Symbol
  pub permissions : List (List ℕ)
  pub policy : ArePolicy modules items enabled
  pub a_class : Declared items enabled kinds.Class class_
  pub named : name_of class_ ≡ class_name
  pub of_class : Lists text_cmp (λ p. has_permission items class_ p ≡ true) permissions
  pub is_permission : slice_get permissions bit ≡ Some permission

-- the bit has no other name, and the names of greater bits come behind this one
pub record IsInOrder (h : State) (class_name : List ℕ) (bit : ℕ) (name : List ℕ) : Type 0 where
  pub only : (other : List ℕ) → OfLoaded h (IsPermissionOf class_name bit other) → other ≡ name
  pub before : (greater : ℕ) (other : List ℕ) → bit < greater → OfLoaded h (IsPermissionOf class_name greater other) → text_cmp name other ≡ Less

-- these are the names of the permissions of the class, each at its bit
pub record AreNamesOf (h : State) (class_name : List ℕ) (names : List (List ℕ)) : Type 0 where
  pub all : (bit : ℕ) (name : List ℕ) → OfLoaded h (IsPermissionOf class_name bit name) ↔ (slice_get names bit ≡ Some name)
  pub order : (bit : ℕ) (name : List ℕ) → slice_get names bit ≡ Some name → IsInOrder h class_name bit name
