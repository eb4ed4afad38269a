-- When a level dominates another. The SELinux Notebook, "Multi-Level Security and Multi-Category Security".
use Rattle.std.specs.Prelude.{◌≡◌, ◌↔◌, ℕ, zero, suc, ◌<◌, ◌≤◌, Bool, true, ◌&&◌, ◌||◌, not, leb, replicate}
use Rattle.cil_mls.specs.declared.level.Level.{Level}
use Rattle.cil_mls.specs.Bits.{in_words}

-- the level has the category
abbrev pub has : Level → ℕ → Bool
has l c = in_words l.categories.words c

-- the same as a fact
abbrev pub IsIn : Level → ℕ → Type 0
IsIn l c = has l c ≡ true

-- the level of every context of a policy whose levels are off: the lowest sensitivity, and no category
abbrev pub no_level : Level
no_level = record { sensitivity = 0; categories = record { words = replicate 16 0 } }

-- they have the same sensitivity and the same categories
pub record AreSame (a b : Level) : Type 0 where
  pub sensitivity : a.sensitivity ≡ b.sensitivity
  pub categories : (c : ℕ) → c < 1024 → IsIn a c ↔ IsIn b c

-- its sensitivity is not lower, and it has all categories of the other
pub record Dominates (a b : Level) : Type 0 where
  pub sensitivity : b.sensitivity ≤ a.sensitivity
  pub categories : (c : ℕ) → c < 1024 → IsIn b c → IsIn a c

-- of the first n categories, each that the second has is one of the first
unfoldable pub are_covered : ℕ → (ℕ → Bool) → (ℕ → Bool) → Bool
are_covered zero outer inner = true
are_covered (suc n) outer inner = (not (inner n) || outer n) && are_covered n outer inner

-- dominance as a test, for definitions that compute with it
unfoldable pub dominates : Level → Level → Bool
dominates a b = leb b.sensitivity a.sensitivity && are_covered 1024 (has a) (has b)
