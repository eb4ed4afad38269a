-- The tokens of a condition are read as that condition, and are one expression.
use Rattle.std.proofs.Common.{◌≡◌, ℕ, suc, List, [], ◌∷◌, ◌++◌, refl, sym, ap, subst, ◌∙◌}
use Rattle.std.proofs.lemmas.List.{append_assoc, append-nil}
use Rattle.cil_conditions.specs.declared.token.Token.{Token}
use Rattle.cil_conditions.specs.Truth.{AreOperands, IsExpression}
use Rattle.cil_rule_bytes.specs.Conditions.{Condition, boolean, opposite, joined, Junction, conjoined, disjoined, parted, matched, unmatched, junction_token, tokens_of, opposed, joined_first, trees_in, first_tree, tree_in}

joined_token : (j : Junction) (ts : List Token) → trees_in (junction_token j ∷ ts) ≡ joined_first j (trees_in ts)
unfolding trees_in
joined_token conjoined ts = refl
joined_token disjoined ts = refl
joined_token parted ts = refl
joined_token matched ts = refl
joined_token unmatched ts = refl

-- the tokens of a condition, and then others
trees_behind : (c : Condition) (ts : List Token) → trees_in (tokens_of c ++ ts) ≡ c ∷ trees_in ts
unfolding trees_in
trees_behind (boolean n) ts = refl
trees_behind (opposite c) ts = ap opposed (trees_behind c ts)
trees_behind (joined j c d) ts =
    joined_token j ((tokens_of c ++ tokens_of d) ++ ts)
    ∙ ap (λ w. joined_first j (trees_in w)) (append_assoc (tokens_of c) (tokens_of d) ts)
    ∙ ap (joined_first j) (trees_behind c (tokens_of d ++ ts) ∙ ap (λ w. c ∷ w) (trees_behind d ts))

-- the tokens of a condition are read as that one
pub one_tree : (c : Condition) → tree_in (tokens_of c) ≡ c
unfolding trees_in
one_tree c = ap (λ w. first_tree (trees_in w)) (sym (append-nil (tokens_of c))) ∙ ap first_tree (trees_behind c [])

two_wanted : (j : Junction) (n : ℕ) (ts : List Token) → AreOperands (suc (suc n)) ts → AreOperands (suc n) (junction_token j ∷ ts)
unfolding AreOperands
two_wanted conjoined n ts h = h
two_wanted disjoined n ts h = h
two_wanted parted n ts h = h
two_wanted matched n ts h = h
two_wanted unmatched n ts h = h

-- one expression more in front
pub operands_behind : (c : Condition) (n : ℕ) (ts : List Token) → AreOperands n ts → AreOperands (suc n) (tokens_of c ++ ts)
unfolding AreOperands
operands_behind (boolean b) n ts h = h
operands_behind (opposite c) n ts h = operands_behind c n ts h
operands_behind (joined j c d) n ts h =
    two_wanted j n ((tokens_of c ++ tokens_of d) ++ ts)
    (subst (AreOperands (suc (suc n))) (sym (append_assoc (tokens_of c) (tokens_of d) ts)) (operands_behind c (suc n) (tokens_of d ++ ts) (operands_behind d n ts h)))

-- the tokens of a condition are one expression
pub is_expression : (c : Condition) → IsExpression (tokens_of c)
unfolding AreOperands
is_expression c = subst (AreOperands 1) (append-nil (tokens_of c)) (operands_behind c 0 [] tt)
