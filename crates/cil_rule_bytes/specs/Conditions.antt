-- Conditions as trees, and the tokens of each. This project's profile.
use Rattle.std.specs.Prelude.{ℕ, List, [], ◌∷◌, ◌++◌}
use Rattle.cil_conditions.specs.declared.token.Token.{Token}
use Rattle.cil_conditions.specs.declared.token.Token.TheVariants as tokens

-- what joins two conditions
pub data Junction : Type 0 where
  conjoined disjoined parted matched unmatched : Junction

-- a boolean by its number, the opposite of a condition, or two that are joined
pub data Condition : Type 0 where
  boolean : ℕ → Condition
  opposite : Condition → Condition
  joined : Junction → Condition → Condition → Condition

abbrev pub junction_token : Junction → Token
junction_token conjoined = tokens.And
junction_token disjoined = tokens.Or
junction_token parted = tokens.Xor
junction_token matched = tokens.Equal
junction_token unmatched = tokens.Unequal

-- each operator in front of its operands
abbrev pub tokens_of : Condition → List Token
tokens_of (boolean n) = tokens.Boolean n ∷ []
tokens_of (opposite c) = tokens.Not ∷ tokens_of c
tokens_of (joined j c d) = junction_token j ∷ (tokens_of c ++ tokens_of d)

-- ---- the same, read from tokens

abbrev pub opposed : List Condition → List Condition
opposed [] = []
opposed (c ∷ cs) = opposite c ∷ cs

abbrev pub joined_first : Junction → List Condition → List Condition
joined_first j [] = []
joined_first j (c ∷ []) = []
joined_first j (c ∷ d ∷ cs) = joined j c d ∷ cs

-- the conditions that are one after another in some tokens
unfoldable pub trees_in : List Token → List Condition
trees_in [] = []
trees_in (tokens.Boolean n ∷ ts) = boolean n ∷ trees_in ts
trees_in (tokens.Not ∷ ts) = opposed (trees_in ts)
trees_in (tokens.And ∷ ts) = joined_first conjoined (trees_in ts)
trees_in (tokens.Or ∷ ts) = joined_first disjoined (trees_in ts)
trees_in (tokens.Xor ∷ ts) = joined_first parted (trees_in ts)
trees_in (tokens.Equal ∷ ts) = joined_first matched (trees_in ts)
trees_in (tokens.Unequal ∷ ts) = joined_first unmatched (trees_in ts)

abbrev pub first_tree : List Condition → Condition
first_tree [] = boolean 0
first_tree (c ∷ cs) = c

-- the condition that some tokens spell
abbrev pub tree_in : List Token → Condition
tree_in ts = first_tree (trees_in ts)
