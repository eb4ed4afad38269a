-- The permissions of a mask by their names, as a reply has them. This project's profile.
use Rattle.std.specs.Prelude.{◌≡◌, ◌<◌, ℕ, Bool, true, false, List, [], ◌∷◌, ◌++◌, codes, IsBitSet, slice_get, Some}
use Rattle.std.specs.List.{flat_map}
use Rattle.cil_base.specs.Lists.{Lists, text_cmp}
use Rattle.cil_host.specs.decide_crate.Decision.{Decision}
use Rattle.cil_host.specs.Machine.{OfLoaded, State}
use Rattle.cil_host.specs.Permissions.{IsInOrder, IsPermissionOf}
use Rattle.cil_world.specs.declared.reply.Reply.{Reply}
use Rattle.cil_world.specs.declared.reply.Reply.TheVariants.{Decided}

-- the class of the loaded modules has this permission at a bit of the mask
pub record IsNamed (h : State) (class_name : List ℕ) (mask bit : ℕ) (name : List ℕ) : Type 0 where
  pub is_set : IsBitSet mask bit
  pub permission : OfLoaded h (IsPermissionOf class_name bit name)

-- the name of one of the 32 bits of a mask
pub record IsNameOf (h : State) (class_name : List ℕ) (mask : ℕ) (name : List ℕ) : Type 0 where
  pub bit : ℕ
  pub within : bit < 32
  pub named : IsNamed h class_name mask bit name

-- the names behind the first, each behind a comma
abbrev pub listed : List (List ℕ) → List ℕ
listed = flat_map (λ name. 44 ∷ name)

-- names with commas between; a hyphen where there is none
abbrev pub joined : List (List ℕ) → List ℕ
joined [] = codes "-"
joined (name ∷ names) = name ++ listed names

-- the text has the names of a mask in byte order
pub record Spells (h : State) (class_name : List ℕ) (mask : ℕ) (text : List ℕ) : Type 0 where
  pub names : List (List ℕ)
  pub are_names : Lists text_cmp (IsNameOf h class_name mask) names
  pub spelled : text ≡ joined names

-- the reply has the three masks of a decision
pub record AreSpelled (h : State) (class_name : List ℕ) (decision : Decision) (reply : Reply) : Type 0 where
  pub allowed : List ℕ
  pub auditallow : List ℕ
  pub auditdeny : List ℕ
  pub are_allowed : Spells h class_name decision.allowed allowed
  pub are_auditallow : Spells h class_name decision.auditallow auditallow
  pub are_auditdeny : Spells h class_name decision.auditdeny auditdeny
  pub told : reply ≡ Decided allowed auditallow auditdeny

-- ---- words of inner functions

-- of these names the one at a bit that is set
pub record IsListed (names : List (List ℕ)) (mask bit : ℕ) (name : List ℕ) : Type 0 where
  pub is_set : IsBitSet mask bit
  pub is_name : slice_get names bit ≡ Some name

-- the name of a bit, and the names of greater bits come behind it
pub record IsPlaced (h : State) (class_name : List ℕ) (mask bit : ℕ) (name : List ℕ) : Type 0 where
  pub named : IsNamed h class_name mask bit name
  pub order : IsInOrder h class_name bit name

-- a name, behind a comma unless it is the first
abbrev pub behind_comma : Bool → List ℕ → List ℕ
behind_comma true name = name
behind_comma false name = 44 ∷ name
