-- How many faults are told, and of how many files. This project's profile.
use Rattle.std.specs.Prelude.{◌≡◌, ◌≤◌, ℕ, List, Option, Contains, count_by, is_some, length, map}
use Rattle.std.specs.Ordering.{nat_cmp}
use Rattle.cil_base.specs.Lists.{Lists}
use Rattle.cil_sexpr.specs.declared.fault.ReadFault.{ReadFault}
use Rattle.cil_locate.specs.declared.told.Told.{Told}

-- how many files cannot be read as texts; each has one fault
abbrev pub unread : List (Option ReadFault) → ℕ
unread readings = count_by is_some readings

-- something is told of the file of this number; what is told of the policy has the number 0
abbrev pub IsToldOf : List Told → ℕ → Type 0
IsToldOf order origin = (1 ≤ origin) × Contains (map (λ t. t.origin) order) origin

-- something is told of just so many files: they have a list, each once
pub record AreTold (order : List Told) (files : ℕ) : Type 0 where
  pub origins : List ℕ
  pub lists : Lists nat_cmp (IsToldOf order) origins
  pub counts : files ≡ length origins
