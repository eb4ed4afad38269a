-- Conditions, computed: with boolean 0 on and boolean 1 off, `(and b0 (not b1))` is true, and `(xor b0 b0)` is false. Branches of true
-- come before those of false, and a boolean before an operator.
use Rattle.std.specs.Prelude.{◌≡◌, ℕ, zero, suc, Bool, true, false, [], ◌∷◌, refl}
use Rattle.std.specs.declared.cmp.Ordering.TheVariants.{Less}
use Rattle.cil_conditions.specs.declared.token.Token.{Token}
use Rattle.cil_conditions.specs.declared.token.Token.TheVariants as tokens
use Rattle.cil_conditions.specs.Order.{branch_cmp}
use Rattle.cil_conditions.specs.Truth.{AreOperands, IsExpression, truth, values}

abbrev on : ℕ → Bool
on zero = true
on (suc n) = false

abbrev b0 : Token
b0 = tokens.Boolean 0

abbrev b1 : Token
b1 = tokens.Boolean 1

computed : (truth on (tokens.And ∷ b0 ∷ tokens.Not ∷ b1 ∷ []) ≡ true) × (truth on (tokens.Xor ∷ b0 ∷ b0 ∷ []) ≡ false) × (truth on (tokens.Or ∷ b1 ∷ b0 ∷ []) ≡ true)
    × (truth on (tokens.Equal ∷ b0 ∷ b1 ∷ []) ≡ false) × (truth on (tokens.Unequal ∷ tokens.Or ∷ b0 ∷ b1 ∷ b1 ∷ []) ≡ true)
unfolding values
computed = (refl, refl, refl, refl, refl)

-- each operator has its operands, and nothing is left
spelled : IsExpression (tokens.And ∷ b0 ∷ tokens.Not ∷ b1 ∷ [])
unfolding AreOperands
spelled = tt

left_over : IsExpression (b1 ∷ tokens.And ∷ b0 ∷ []) → ⊥
unfolding AreOperands
left_over is = is

lacking : IsExpression (tokens.And ∷ b0 ∷ []) → ⊥
unfolding AreOperands
lacking is = is

ordered : (branch_cmp (record { condition = tokens.Or ∷ b0 ∷ b1 ∷ []; value = true }) (record { condition = b0 ∷ []; value = false }) ≡ Less)
    × (branch_cmp (record { condition = b1 ∷ []; value = true }) (record { condition = tokens.Not ∷ b0 ∷ []; value = true }) ≡ Less)
    × (branch_cmp (record { condition = b0 ∷ []; value = false }) (record { condition = b1 ∷ []; value = false }) ≡ Less)
ordered = (refl, refl, refl)
