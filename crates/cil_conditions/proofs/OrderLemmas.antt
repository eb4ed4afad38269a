-- Branches that tie are one.
use Rattle.std.proofs.Common.{◌≡◌, ℕ, zero, suc, Bool, true, false, refl, sym, ◌∙◌, arith}
use Rattle.std.specs.FinMap.{IsAntisymmetric, slice_cmp-IsAntisymmetric}
use Rattle.std.specs.Ordering.{nat_cmp, ordering_then}
use Rattle.std.specs.declared.cmp.Ordering.{Ordering}
use Rattle.std.specs.declared.cmp.Ordering.TheVariants.{Less, Equal, Greater}
use Rattle.std.proofs.lemmas.Map.Lookups.{exact_unsigned}
use Rattle.cil_conditions.specs.declared.branch.Branch.{Branch}
use Rattle.cil_conditions.specs.declared.token.Token.{Token}
use Rattle.cil_conditions.specs.declared.token.Token.TheVariants as tokens
use Rattle.cil_conditions.specs.Order.{branch_cmp, branch_tag, number_of, tag_of, token_cmp}

-- what ties by one and then by another ties by both
both_tie : (o p : Ordering) → ordering_then o p ≡ Equal → (o ≡ Equal) × (p ≡ Equal)
both_tie Less p e = absurd (cc)
both_tie Equal p e = (refl, e)
both_tie Greater p e = absurd (cc)

-- the token of a tag and a number
token_at : ℕ → ℕ → Token
token_at (suc zero) n = tokens.Boolean n
token_at (suc (suc zero)) n = tokens.Not
token_at (suc (suc (suc zero))) n = tokens.And
token_at (suc (suc (suc (suc zero)))) n = tokens.Or
token_at (suc (suc (suc (suc (suc zero))))) n = tokens.Xor
token_at (suc (suc (suc (suc (suc (suc zero)))))) n = tokens.Equal
token_at m n = tokens.Unequal

told_token : (t : Token) → token_at (tag_of t) (number_of t) ≡ t
unfolding token_at
told_token (tokens.Boolean n) = refl
told_token tokens.Not = refl
told_token tokens.And = refl
told_token tokens.Or = refl
told_token tokens.Xor = refl
told_token tokens.Equal = refl
told_token tokens.Unequal = refl

-- tokens that tie are one
pub one_token : IsAntisymmetric token_cmp
one_token a b e =
    let parts = both_tie (nat_cmp (tag_of a) (tag_of b)) (nat_cmp (number_of a) (number_of b)) e in
    let tags : tag_of a ≡ tag_of b = exact_unsigned (tag_of a) (tag_of b) parts.0 in
    let numbers : number_of a ≡ number_of b = exact_unsigned (number_of a) (number_of b) parts.1 in
    sym (told_token a) ∙ (λ i. token_at (tags i) (numbers i)) ∙ told_token b

one_value : (a b : Bool) → branch_tag a ≡ branch_tag b → a ≡ b
one_value true true e = refl
one_value true false e = absurd (let f : 1 ≡ 2 = e in omega arith)
one_value false true e = absurd (let f : 2 ≡ 1 = e in omega arith)
one_value false false e = refl

-- branches that tie are one
pub one_branch : (a b : Branch) → branch_cmp a b ≡ Equal → a ≡ b
one_branch a b e =
    let parts = both_tie _ _ e in
    let values : a.value ≡ b.value = one_value a.value b.value (exact_unsigned (branch_tag a.value) (branch_tag b.value) parts.0) in
    let conditions : a.condition ≡ b.condition = slice_cmp-IsAntisymmetric one_token a.condition b.condition parts.1 in
    λ i. record { condition = conditions i; value = values i }
