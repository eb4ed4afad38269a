-- What the words of a kind stand for, by what declared names hold. This project's profile.
use Rattle.std.specs.Prelude.{◌≡◌, ℕ, ◌<◌, true, List, [], Some, get_or, length, slice_get}
use Rattle.std.specs.Ordering.{nat_cmp}
use Rattle.cil_base.specs.Lists.{Lists}
use Rattle.cil_attrs.specs.declared.evaluator.Held.{Held}
use Rattle.cil_attrs.specs.Evaluated.{is_held}

-- the numbers below this one that are held
abbrev pub AreBelow : ℕ → Held → List ℕ → Type 0
AreBelow items held numbers = Lists nat_cmp (λ v. (is_held v held ≡ true) × (v < items)) numbers

-- those that each of some holds
pub record AreAllBelow (items : ℕ) (held : List Held) (sets : List (List ℕ)) : Type 0 where
  pub len : length sets ≡ length held
  pub each : (d : ℕ) (h : Held) → slice_get held d ≡ Some h → AreBelow items h (get_or sets d [])
