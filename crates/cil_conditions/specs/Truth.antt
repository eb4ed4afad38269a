-- Conditions as tables keep them: an expression with each operator in front of its operands. CIL Reference Guide,
-- "booleanif" and "Boolean Expressions"; the form is this project's profile.
use Rattle.std.specs.Prelude.{ℕ, zero, suc, Bool, false, not, ◌&&◌, ◌||◌, List, [], ◌∷◌}
use Rattle.cil_syntax.specs.Expressions.{differ}
use Rattle.cil_conditions.specs.declared.token.Token.{Token}
use Rattle.cil_conditions.specs.declared.token.Token.TheVariants as tokens

-- an operator takes the values of its operands, which stand behind it
abbrev pub of_one : (Bool → Bool) → List Bool → List Bool
of_one f [] = []
of_one f (a ∷ rest) = f a ∷ rest

abbrev pub of_two : (Bool → Bool → Bool) → List Bool → List Bool
of_two f [] = []
of_two f (a ∷ []) = []
of_two f (a ∷ b ∷ rest) = f a b ∷ rest

-- the value of an operator over two operands
abbrev pub truth_of : Token → Bool → Bool → Bool
truth_of tokens.And a b = a && b
truth_of tokens.Or a b = a || b
truth_of tokens.Equal a b = not (differ a b)
truth_of operator a b = differ a b

abbrev pub with_token : (ℕ → Bool) → Token → List Bool → List Bool
with_token on (tokens.Boolean n) values = on n ∷ values
with_token on tokens.Not values = of_one not values
with_token on tokens.And values = of_two (truth_of tokens.And) values
with_token on tokens.Or values = of_two (truth_of tokens.Or) values
with_token on tokens.Xor values = of_two (truth_of tokens.Xor) values
with_token on tokens.Equal values = of_two (truth_of tokens.Equal) values
with_token on tokens.Unequal values = of_two (truth_of tokens.Unequal) values

-- the values of the expressions that some tokens spell, one after another
unfoldable pub values : (ℕ → Bool) → List Token → List Bool
values on [] = []
values on (t ∷ ts) = with_token on t (values on ts)

abbrev pub first_of : List Bool → Bool
first_of [] = false
first_of (b ∷ bs) = b

-- the value of a condition, where these booleans are on
abbrev pub truth : (ℕ → Bool) → List Token → Bool
truth on ts = first_of (values on ts)

-- how many expressions are wanted behind a token: its operands, and so many more
abbrev pub wanted_behind : Token → ℕ → ℕ
wanted_behind (tokens.Boolean number) n = n
wanted_behind tokens.Not n = suc n
wanted_behind tokens.And n = suc (suc n)
wanted_behind tokens.Or n = suc (suc n)
wanted_behind tokens.Xor n = suc (suc n)
wanted_behind tokens.Equal n = suc (suc n)
wanted_behind tokens.Unequal n = suc (suc n)

-- the tokens spell so many expressions, one after another: each operator has its operands, and nothing is left
unfoldable pub AreOperands : ℕ → List Token → Type 0
AreOperands zero [] = Unit {0}
AreOperands zero (t ∷ ts) = ⊥
AreOperands (suc n) [] = ⊥
AreOperands (suc n) (t ∷ ts) = AreOperands (wanted_behind t n) ts

-- the tokens spell one expression
abbrev pub IsExpression : List Token → Type 0
IsExpression ts = AreOperands 1 ts
