-- The order of branches: the true ones first, and then by their tokens. It is that of the bytes of a table. This project's profile.
use Rattle.std.specs.Prelude.{ℕ, Bool, true, false}
use Rattle.std.specs.Cmp.{IsTotalOrder}
use Rattle.std.specs.Cmp.Lexicographic.{slice_cmp}
use Rattle.std.specs.Ordering.{nat_cmp, on, then_cmp}
use Rattle.std.specs.declared.cmp.Ordering.{Ordering}
use Rattle.std.proofs.lemmas.Cmp.{lists_total, nat_cmp_total, on_total, then_total}
use Rattle.cil_conditions.specs.declared.branch.Branch.{Branch}
use Rattle.cil_conditions.specs.declared.token.Token.{Token}
use Rattle.cil_conditions.specs.declared.token.Token.TheVariants as tokens

-- which token it is: the tags of a table
abbrev pub tag_of : Token → ℕ
tag_of (tokens.Boolean n) = 1
tag_of tokens.Not = 2
tag_of tokens.And = 3
tag_of tokens.Or = 4
tag_of tokens.Xor = 5
tag_of tokens.Equal = 6
tag_of tokens.Unequal = 7

-- the number of its boolean; 0 for an operator
abbrev pub number_of : Token → ℕ
number_of (tokens.Boolean n) = n
number_of t = 0

-- by tag, then by number
abbrev pub token_cmp : Token → Token → Ordering
token_cmp = then_cmp (on tag_of nat_cmp) (on number_of nat_cmp)

pub token_total : IsTotalOrder token_cmp
token_total = then_total (on_total tag_of nat_cmp_total) (on_total number_of nat_cmp_total)

-- branches of true come before those of false
abbrev pub branch_tag : Bool → ℕ
branch_tag true = 1
branch_tag false = 2

-- by value, then by the tokens of the condition, the first that differs
abbrev pub branch_cmp : Branch → Branch → Ordering
branch_cmp = then_cmp (on (λ b. branch_tag b.value) nat_cmp) (on (λ b. b.condition) (slice_cmp token_cmp))

-- any two branches have an order
pub branch_total : IsTotalOrder branch_cmp
branch_total = then_total (on_total (λ b. branch_tag b.value) nat_cmp_total) (on_total (λ b. b.condition) (lists_total token_total))
