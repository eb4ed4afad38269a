-- The names of the permissions of a mask, by the list of the names of all permissions of the class, each at its bit. This project's profile.
use Rattle.std.specs.Prelude.{◌≡◌, ◌<◌, ℕ, List, IsBitSet, Some, slice_get}
use Rattle.cil_base.specs.Lists.{Lists, text_cmp}
use Rattle.cil_host.specs.decide_crate.Decision.{Decision}
use Rattle.cil_server.specs.Replies.{joined, of_decision}

-- the name of a bit that is set in a mask
pub record IsListed (permissions : List (List ℕ)) (mask bit : ℕ) (name : List ℕ) : Type 0 where
  pub is_set : IsBitSet mask bit
  pub is_name : slice_get permissions bit ≡ Some name

-- the name of one of the 32 bits of a mask
pub record IsOfMask (permissions : List (List ℕ)) (mask : ℕ) (name : List ℕ) : Type 0 where
  pub bit : ℕ
  pub within : bit < 32
  pub listed : IsListed permissions mask bit name

-- the names of a mask, in byte order
abbrev pub AreOfMask : List (List ℕ) → ℕ → List (List ℕ) → Type 0
AreOfMask permissions mask names = Lists text_cmp (IsOfMask permissions mask) names

-- the names of a mask, told
pub record TellsNames (permissions : List (List ℕ)) (mask : ℕ) (tells : List ℕ → Type 0) : Type 0 where
  pub names : List (List ℕ)
  pub are_names : AreOfMask permissions mask names
  pub told : tells (joined names)

-- the reply to a query with this decision on a class with these permissions
pub record IsReplyOf (permissions : List (List ℕ)) (d : Decision) (reply : List ℕ) : Type 0 where
  pub allowed : List (List ℕ)
  pub auditallow : List (List ℕ)
  pub auditdeny : List (List ℕ)
  pub are_allowed : AreOfMask permissions d.allowed allowed
  pub are_auditallow : AreOfMask permissions d.auditallow auditallow
  pub are_auditdeny : AreOfMask permissions d.auditdeny auditdeny
  pub is_reply : reply ≡ of_decision allowed auditallow auditdeny

-- that reply, told
pub record TellsMasks (permissions : List (List ℕ)) (d : Decision) (tells : List ℕ → Type 0) : Type 0 where
  pub reply : List ℕ
  pub is_reply : IsReplyOf permissions d reply
  pub told : tells reply
