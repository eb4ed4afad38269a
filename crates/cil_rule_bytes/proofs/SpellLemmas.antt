-- The bytes of a condition are those of its tokens, one after another.
use Rattle.std.proofs.Common.{◌≡◌, ℕ, zero, suc, ◌^◌, ◌<◌, List, [], ◌∷◌, ◌++◌, refl, sym, ap, subst, ◌∙◌, arith}
use Rattle.std.specs.List.{AllByRecursion}
use Rattle.std.proofs.lemmas.Grind.{flat_map-append}
use Rattle.std.proofs.lemmas.List.Concat.{flat_map-cons}
use Rattle.cil_conditions.specs.declared.token.Token.{Token}
use Rattle.cil_conditions.specs.declared.token.Token.TheVariants as tokens
use Rattle.cil_conditions.specs.Order.{number_of}
use Rattle.cil_conditions.specs.Truth.{IsExpression}
use Rattle.cil_rule_bytes.specs.Conditions.{Condition, boolean, opposite, joined, conjoined, disjoined, parted, matched, unmatched, tokens_of, tree_in}
use Rattle.cil_rule_bytes.specs.Layout.{condition, token_bytes, tokens_bytes, tree, tree_tokens}
use Rattle.cil_rule_bytes.proofs.Trees.{is_expression}

-- the number of a boolean has two bytes
abbrev pub IsSmall : Token → Type 0
IsSmall t = number_of t < 2 ^ 16

all_behind : {X : Type 0} (P : X → Type 0) (xs ys : List X) → AllByRecursion P xs → AllByRecursion P ys → AllByRecursion P (xs ++ ys)
all_behind P [] ys a b = b
all_behind P (x ∷ xs) ys a b = (a.0, all_behind P xs ys a.1 b)

-- what is laid out of a tree of so many levels
pub record IsSpelled (bytes : List ℕ) (ts : List Token) : Type 0 where
  pub bytes_are : bytes ≡ tokens_bytes ts
  pub small : AllByRecursion IsSmall ts

one_operator : (t : Token) (n : ℕ) (bytes : List ℕ) (ts : List Token) → token_bytes t ≡ n ∷ [] → IsSmall t → IsSpelled bytes ts → IsSpelled (n ∷ bytes) (t ∷ ts)
one_operator t n bytes ts e small is = record {
  bytes_are = ap (λ w. n ∷ w) is.bytes_are ∙ ap (λ w. w ++ tokens_bytes ts) (sym e) ∙ sym (flat_map-cons token_bytes t ts);
  small = (small, is.small);
}

two_behind : (one two : List ℕ) (ts us : List Token) → IsSpelled one ts → IsSpelled two us → IsSpelled (one ++ two) (ts ++ us)
two_behind one two ts us a b = record {
  bytes_are = ap (λ w. w ++ two) a.bytes_are ∙ ap (λ w. tokens_bytes ts ++ w) b.bytes_are ∙ sym (flat_map-append token_bytes ts us);
  small = all_behind IsSmall ts us a.small b.small;
}

pub tree_spelled : (booleans depth : ℕ) (c : Condition) → (tree booleans depth).Fits c → IsSpelled ((tree booleans depth).spell c) (tokens_of c)
unfolding tree
tree_spelled booleans zero c fits = absurd fits
tree_spelled booleans (suc depth) (boolean n) fits = record { bytes_are = refl; small = (fits.1.0.0, tt) }
tree_spelled booleans (suc depth) (opposite c) fits =
    one_operator tokens.Not 2 ((tree booleans depth).spell c) (tokens_of c) refl (omega arith) (tree_spelled booleans depth c fits.1.0)
tree_spelled booleans (suc depth) (joined conjoined c d) fits =
    one_operator tokens.And 3 ((tree booleans depth).spell c ++ (tree booleans depth).spell d) (tokens_of c ++ tokens_of d) refl (omega arith)
    (two_behind _ _ _ _ (tree_spelled booleans depth c fits.1.0.0) (tree_spelled booleans depth d fits.1.0.1))
tree_spelled booleans (suc depth) (joined disjoined c d) fits =
    one_operator tokens.Or 4 ((tree booleans depth).spell c ++ (tree booleans depth).spell d) (tokens_of c ++ tokens_of d) refl (omega arith)
    (two_behind _ _ _ _ (tree_spelled booleans depth c fits.1.0.0) (tree_spelled booleans depth d fits.1.0.1))
tree_spelled booleans (suc depth) (joined parted c d) fits =
    one_operator tokens.Xor 5 ((tree booleans depth).spell c ++ (tree booleans depth).spell d) (tokens_of c ++ tokens_of d) refl (omega arith)
    (two_behind _ _ _ _ (tree_spelled booleans depth c fits.1.0.0) (tree_spelled booleans depth d fits.1.0.1))
tree_spelled booleans (suc depth) (joined matched c d) fits =
    one_operator tokens.Equal 6 ((tree booleans depth).spell c ++ (tree booleans depth).spell d) (tokens_of c ++ tokens_of d) refl (omega arith)
    (two_behind _ _ _ _ (tree_spelled booleans depth c fits.1.0.0) (tree_spelled booleans depth d fits.1.0.1))
tree_spelled booleans (suc depth) (joined unmatched c d) fits =
    one_operator tokens.Unequal 7 ((tree booleans depth).spell c ++ (tree booleans depth).spell d) (tokens_of c ++ tokens_of d) refl (omega arith)
    (two_behind _ _ _ _ (tree_spelled booleans depth c fits.1.0.0) (tree_spelled booleans depth d fits.1.0.1))

-- the bytes of a tree, by its tokens
pub tokens_spelled : (booleans : ℕ) (ts : List Token) → (tree_tokens booleans).Fits ts → IsSpelled ((tree_tokens booleans).spell ts) ts
tokens_spelled booleans ts fits =
    subst (λ (w : List Token). IsSpelled ((tree booleans 128).spell (tree_in ts)) w) fits.1 (tree_spelled booleans 128 (tree_in ts) fits.0)

-- the numbers in a condition that is laid out are small
pub condition_small : (booleans : ℕ) (ts : List Token) → (condition booleans).Fits ts → AllByRecursion IsSmall ts
unfolding condition
condition_small booleans ts fits = (tokens_spelled booleans ts fits).small

-- the bytes of a condition are those of its tokens
pub condition_bytes : (booleans : ℕ) (ts : List Token) → (condition booleans).spell ts ≡ tokens_bytes ts
unfolding condition
condition_bytes booleans ts = refl

-- tokens that are laid out are one expression
pub fits_expression : (booleans : ℕ) (ts : List Token) → (condition booleans).Fits ts → IsExpression ts
unfolding condition
fits_expression booleans ts fits = subst IsExpression fits.1 (is_expression (tree_in ts))
