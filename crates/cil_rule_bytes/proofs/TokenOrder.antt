-- The order of the bytes of conditions is that of their tokens: these differ in width, and no expression begins another.
use Rattle.std.proofs.Common.{◌≡◌, ℕ, zero, suc, List, [], ◌∷◌, ◌++◌, refl, ap, subst, ◌∙◌, append_assoc, arith}
use Rattle.std.specs.List.{AllByRecursion}
use Rattle.std.specs.Cmp.Lexicographic.{slice_cmp}
use Rattle.std.specs.Ordering.{nat_cmp, ordering_then}
use Rattle.std.specs.declared.cmp.Ordering.{Ordering}
use Rattle.std.specs.declared.cmp.Ordering.TheVariants as orders
use Rattle.std.proofs.lemmas.List.Concat.{flat_map-cons}
use Rattle.cil_base.specs.Lists.{text_cmp}
use Rattle.cil_base.specs.Paths.{same_by}
use Rattle.cil_conditions.specs.declared.token.Token.{Token}
use Rattle.cil_conditions.specs.declared.token.Token.TheVariants as tokens
use Rattle.cil_conditions.specs.Order.{number_of, tag_of, token_cmp}
use Rattle.cil_conditions.specs.Truth.{AreOperands, wanted_behind}
use Rattle.cil_conditions.proofs.OrderLemmas.{one_token}
use Rattle.cil_format.proofs.Orders.{order16}
use Rattle.cil_rule_bytes.specs.Layout.{number_bytes, token_bytes, tokens_bytes}
use Rattle.cil_rule_bytes.proofs.SpellLemmas.{IsSmall}

pub then_assoc : (a b c : Ordering) → ordering_then (ordering_then a b) c ≡ ordering_then a (ordering_then b c)
then_assoc orders.Less b c = refl
then_assoc orders.Equal b c = refl
then_assoc orders.Greater b c = refl

-- the first that differs decides, and what follows where the first do not
pub decided : (o p q r : Ordering) → (o ≡ orders.Equal → q ≡ ordering_then p r) → ordering_then o q ≡ ordering_then (ordering_then o p) r
decided orders.Less p q r h = refl
decided orders.Equal p q r h = h refl
decided orders.Greater p q r h = refl

same_tag : (t u : Token) (xs ys : List ℕ) → IsSmall t → IsSmall u → tag_of t ≡ tag_of u
    → text_cmp (number_bytes t ++ xs) (number_bytes u ++ ys) ≡ ordering_then (nat_cmp (number_of t) (number_of u)) (text_cmp xs ys)
same_tag (tokens.Boolean n) (tokens.Boolean m) xs ys p q e = order16 n m xs ys p q
same_tag (tokens.Boolean n) u xs ys p q e = absurd (omega (arith, e))
same_tag t (tokens.Boolean m) xs ys p q e = absurd (omega (arith, e))
same_tag t u xs ys p q e = refl

-- a token, and what follows
token_order : (t u : Token) (xs ys : List ℕ) → IsSmall t → IsSmall u → text_cmp (token_bytes t ++ xs) (token_bytes u ++ ys) ≡ ordering_then (token_cmp t u) (text_cmp xs ys)
token_order t u xs ys p q =
    decided (nat_cmp (tag_of t) (tag_of u)) (nat_cmp (number_of t) (number_of u)) (text_cmp (number_bytes t ++ xs) (number_bytes u ++ ys)) (text_cmp xs ys)
    (λ e. same_tag t u xs ys p q (same_by (tag_of t) (tag_of u) e))

-- tokens of as many expressions, and what follows
pub tokens_order : (n : ℕ) (ts us : List Token) (xs ys : List ℕ) → AreOperands n ts → AreOperands n us → AllByRecursion IsSmall ts → AllByRecursion IsSmall us
    → text_cmp (tokens_bytes ts ++ xs) (tokens_bytes us ++ ys) ≡ ordering_then (slice_cmp token_cmp ts us) (text_cmp xs ys)
unfolding AreOperands
tokens_order zero [] [] xs ys a b p q = refl
tokens_order zero (t ∷ ts) us xs ys a b p q = absurd a
tokens_order zero [] (u ∷ us) xs ys a b p q = absurd b
tokens_order (suc n) [] us xs ys a b p q = absurd a
tokens_order (suc n) (t ∷ ts) [] xs ys a b p q = absurd b
tokens_order (suc n) (t ∷ ts) (u ∷ us) xs ys a b p q =
    let ft : tokens_bytes (t ∷ ts) ++ xs ≡ token_bytes t ++ (tokens_bytes ts ++ xs) =
    ap (λ (w : List ℕ). w ++ xs) (flat_map-cons token_bytes t ts) ∙ append_assoc (token_bytes t) (tokens_bytes ts) xs in
    let fu : tokens_bytes (u ∷ us) ++ ys ≡ token_bytes u ++ (tokens_bytes us ++ ys) =
    ap (λ (w : List ℕ). w ++ ys) (flat_map-cons token_bytes u us) ∙ append_assoc (token_bytes u) (tokens_bytes us) ys in
    ap (λ (w : List ℕ). text_cmp w (tokens_bytes (u ∷ us) ++ ys)) ft ∙ ap (text_cmp (token_bytes t ++ (tokens_bytes ts ++ xs))) fu
    ∙ token_order t u (tokens_bytes ts ++ xs) (tokens_bytes us ++ ys) p.0 q.0
    ∙ decided (token_cmp t u) (slice_cmp token_cmp ts us) (text_cmp (tokens_bytes ts ++ xs) (tokens_bytes us ++ ys)) (text_cmp xs ys)
    (λ e. tokens_order (wanted_behind u n) ts us xs ys (subst (λ (w : Token). AreOperands (wanted_behind w n) ts) (one_token t u e) a) b p.1 q.1)
