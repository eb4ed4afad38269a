-- Permissions by their numbers: their places among those of a class, in byte order. No other crate needs these words.
use Rattle.std.specs.Prelude.{◌≡◌, ◌==◌, ℕ, Bool, true, false, List, ◌++◌, map, Option, Some, None, slice_get}
use Rattle.cil_syntax.specs.Expressions.{by_way, way_of}
use Rattle.cil_syntax.specs.Scopes.{ScopedWord}
use Rattle.cil_syntax.specs.Terms.{Term, Terms}
use Rattle.cil_syntax.specs.declared.term.Op.{Op}
use Rattle.cil_syntax.specs.declared.term.Word.{Word}
use Rattle.cil_names.specs.PermissionWords.{number_among}
use Rattle.cil_classes.specs.Values.{in_each_there, in_odd_there, in_some_there, in_value_there}

-- the numbers of some words, where each says this
abbrev pub numbers_of : List (List ℕ) → (Word → ScopedWord) → List Word → List (Option ℕ)
numbers_of permissions f ws = map (λ w. number_among permissions (f w).bytes) ws

-- the numbers begin with those of these words
pub record AreNumbered (permissions : List (List ℕ)) (f : Word → ScopedWord) (ws : List Word) (numbers : List (Option ℕ)) : Type 0 where
  pub more : List (Option ℕ)
  pub are : numbers ≡ numbers_of permissions f ws ++ more

-- this number is wanted
abbrev pub is_number : ℕ → Option ℕ → Bool
is_number number None = false
is_number number (Some n) = n == number

-- the answer says whether the permission of this number is in the value of the expression
abbrev pub IsHeld : List (List ℕ) → ℕ → Term ScopedWord → Bool → Type 0
IsHeld permissions number e result = (p : List ℕ) → slice_get permissions number ≡ Some p → result ≡ in_value_there e p

-- whether the values of some, of each, of an odd number of these expressions have the permission
pub record IsTallied (p : List ℕ) (es : Terms ScopedWord) (some each odd : Bool) : Type 0 where
  pub in_some : some ≡ in_some_there es p
  pub in_each : each ≡ in_each_there es p
  pub in_odd : odd ≡ in_odd_there es p

-- the same of the permission of this number
abbrev pub IsTally : List (List ℕ) → ℕ → Terms ScopedWord → (some each odd : Bool) → Type 0
IsTally permissions number es some each odd = (p : List ℕ) → slice_get permissions number ≡ Some p → IsTallied p es some each odd

-- what an operator makes of its operands, for a permission that is there
abbrev pub combined_of : Op → (some each odd : Bool) → Bool
combined_of op some each odd = by_way (way_of op) true some each odd false
