-- Conditions of statements, and the tokens that spell them.
use Rattle.std.specs.Prelude.{◌↔◌, Some, None, Option, not}
use Rattle.std.proofs.Common.{◌≡◌, ℕ, suc, Bool, true, false, List, [], ◌∷◌, ◌++◌, refl, sym, ◌∙◌, ap, subst}
use Rattle.std.proofs.lemmas.List.{append-nil, append_assoc}
use Rattle.cil_base.specs.Places.{none_some, some_same}
use Rattle.cil_syntax.specs.declared.kind.Kind.TheVariants as kinds
use Rattle.cil_syntax.specs.declared.term.Op.{Op}
use Rattle.cil_syntax.specs.declared.term.Op.TheVariants as ops
use Rattle.cil_syntax.specs.Expressions.{differ}
use Rattle.cil_syntax.specs.Scopes.{ScopedWord}
use Rattle.cil_syntax.specs.Terms.{Term, Leaf, Name, Form, Terms, nil, cons}
use Rattle.cil_known.specs.macros.Item.{Item, OptSet}
use Rattle.cil_known.specs.names.Declarations.{Symbol, name_of}
use Rattle.cil_known.specs.Known.{IsNumbered}
use Rattle.cil_known.specs.Members.{StandsFor}
use Rattle.cil_known.proofs.names_lemmas.DeclareDecided.{symbol_by}
use Rattle.cil_known.proofs.MemberLemmas.{stands_for_one}
use Rattle.cil_conditions.specs.declared.branch.Branch.{Branch}
use Rattle.cil_conditions.specs.declared.token.Token.{Token}
use Rattle.cil_conditions.specs.declared.token.Token.TheVariants as tokens
use Rattle.cil_conditions.specs.Conditions.{FormHasTruth, FormNamesBooleans, HasTruth, NamesBooleans, Settings, op_of, turns}
use Rattle.cil_conditions.specs.Laws.{BranchesAgree, ChosenIsSaid, HasOneSpelling, HasOneTruth, HasSpelledTruth, SaidIsSpelled, SpelledIsSaid}
use Rattle.cil_conditions.specs.Spelled.{AreAllNumbered, AreSameSettings, HasOneNumber, Spells, SpellsForm, with_turn}
use Rattle.cil_conditions.specs.Truth.{AreOperands, IsExpression, first_of, of_one, of_two, truth, truth_of, values, wanted_behind, with_token}
use Rattle.cil_conditions.specs.Walk.{IsOne}

-- ---- operators

-- the token of an operator over two operands
abbrev token_of : Op → Option Token
token_of ops.And = Some tokens.And
token_of ops.Or = Some tokens.Or
token_of ops.Xor = Some tokens.Xor
token_of ops.Equal = Some tokens.Equal
token_of ops.Unequal = Some tokens.Unequal
token_of op = None

back_of : (op : Op) (t : Token) → op_of t ≡ Some op → token_of op ≡ Some t
back_of op tokens.And e = ap token_of (sym (some_same ops.And op e))
back_of op tokens.Or e = ap token_of (sym (some_same ops.Or op e))
back_of op tokens.Xor e = ap token_of (sym (some_same ops.Xor op e))
back_of op tokens.Equal e = ap token_of (sym (some_same ops.Equal op e))
back_of op tokens.Unequal e = ap token_of (sym (some_same ops.Unequal op e))
back_of op tokens.Not e = absurd (none_some op e)
back_of op (tokens.Boolean n) e = absurd (none_some op e)

same_turn : (op : Op) (a b : Bool) → turns op ≡ Some a → turns op ≡ Some b → a ≡ b
same_turn op a b p q = some_same a b (sym p ∙ q)

same_token : (op : Op) (t u : Token) → op_of t ≡ Some op → op_of u ≡ Some op → t ≡ u
same_token op t u p q = some_same t u (sym (back_of op t p) ∙ back_of op u q)

-- ---- the values of tokens

module _ (on : ℕ → Bool) where
  -- an operator over two operands
  two_token : (op : Op) (t : Token) (vs : List Bool) → op_of t ≡ Some op → with_token on t vs ≡ of_two (truth_of t) vs
  two_token op tokens.And vs e = refl
  two_token op tokens.Or vs e = refl
  two_token op tokens.Xor vs e = refl
  two_token op tokens.Equal vs e = refl
  two_token op tokens.Unequal vs e = refl
  two_token op tokens.Not vs e = absurd (none_some op e)
  two_token op (tokens.Boolean n) vs e = absurd (none_some op e)

  boolean_value : (n : ℕ) (rest : List Token) → values on (tokens.Boolean n ∷ rest) ≡ on n ∷ values on rest
  unfolding values
  boolean_value n rest = refl

  turned_value : (turn : Bool) (inner rest : List Token) (a : Bool) → values on (inner ++ rest) ≡ a ∷ values on rest → values on (with_turn turn inner ++ rest) ≡ differ turn a ∷ values on rest
  unfolding values
  turned_value true inner rest a e = ap (of_one not) e
  turned_value false inner rest a e = e

  joined_value : (op : Op) (t : Token) (first second rest : List Token) (a b : Bool) → op_of t ≡ Some op → values on (first ++ (second ++ rest)) ≡ a ∷ values on (second ++ rest)
      → values on (second ++ rest) ≡ b ∷ values on rest → values on ((t ∷ (first ++ second)) ++ rest) ≡ truth_of t a b ∷ values on rest
  unfolding values
  joined_value op t first second rest a b token p q =
      two_token op t (values on ((first ++ second) ++ rest)) token
      ∙ ap (λ zs. of_two (truth_of t) (values on zs)) (append_assoc first second rest)
      ∙ ap (of_two (truth_of t)) (p ∙ ap (λ vs. a ∷ vs) q)

  only_value : (ts : List Token) (b : Bool) → values on (ts ++ []) ≡ b ∷ values on [] → values on ts ≡ b ∷ []
  unfolding values
  only_value ts b e = ap (values on) (sym (append-nil ts)) ∙ e

-- ---- tokens of one expression

two_wanted : (op : Op) (t : Token) (n : ℕ) → op_of t ≡ Some op → wanted_behind t n ≡ suc (suc n)
two_wanted op tokens.And n e = refl
two_wanted op tokens.Or n e = refl
two_wanted op tokens.Xor n e = refl
two_wanted op tokens.Equal n e = refl
two_wanted op tokens.Unequal n e = refl
two_wanted op tokens.Not n e = absurd (none_some op e)
two_wanted op (tokens.Boolean m) n e = absurd (none_some op e)

pub boolean_is_one : (n : ℕ) → IsOne (tokens.Boolean n ∷ [])
unfolding AreOperands
boolean_is_one n = λ m rest are. are

pub turn_is_one : (turn : Bool) (inner : List Token) → IsOne inner → IsOne (with_turn turn inner)
unfolding AreOperands
turn_is_one true inner one = λ n rest are. one n rest are
turn_is_one false inner one = λ n rest are. one n rest are

pub two_are_one : (op : Op) (t : Token) (first second : List Token) → op_of t ≡ Some op → IsOne first → IsOne second → IsOne (t ∷ (first ++ second))
unfolding AreOperands
two_are_one op t first second token one two = λ n rest are.
    subst (λ z. AreOperands z ((first ++ second) ++ rest)) (sym (two_wanted op t n token))
    (subst (AreOperands (suc (suc n))) (sym (append_assoc first second rest)) (one (suc n) (second ++ rest) (two n rest are)))

pub one_is_expression : (ts : List Token) → IsOne ts → IsExpression ts
unfolding AreOperands
one_is_expression ts one = subst (AreOperands 1) (append-nil ts) (one 0 [] tt)

-- ---- a spelled condition has the value of its tokens

module _ (xs : List Item) (s : OptSet) (v : Settings) (booleans : List (List ℕ)) (on : ℕ → Bool) (same : AreSameSettings booleans on v) where
  mutual
    spelled : (t : Term ScopedWord) (ts rest : List Token) → Spells xs s booleans t ts → (b : Bool) × HasTruth xs s v t b × (values on (ts ++ rest) ≡ b ∷ values on rest)
    spelled (Leaf w) ts rest (n, b, stands, numbered, is) = (
      v (name_of b),
      (b, stands, refl),
      ap (λ zs. values on (zs ++ rest)) is ∙ boolean_value on n rest ∙ ap (λ a. a ∷ values on rest) (same n b numbered),
    )
    spelled (Name at name) ts rest is = absurd is
    spelled (Form at op parts) ts rest is = spelled_form op parts ts rest is

    spelled_form : (op : Op) (parts : Terms ScopedWord) (ts rest : List Token) → SpellsForm xs s booleans op parts ts
        → (b : Bool) × FormHasTruth xs s v op parts b × (values on (ts ++ rest) ≡ b ∷ values on rest)
    spelled_form op nil ts rest is = absurd is
    spelled_form op (cons a nil) ts rest (turn, inner, turned, of_a, is) =
        let r = spelled a inner rest of_a in (
          differ turn r.0,
          (turn, r.0, turned, r.1, refl),
          ap (λ zs. values on (zs ++ rest)) is ∙ turned_value on turn inner rest r.0 r.2,
        )
    spelled_form op (cons a (cons b nil)) ts rest (t, first, second, token, of_a, of_b, is) =
        let p = spelled a first (second ++ rest) of_a in
        let q = spelled b second rest of_b in (
          truth_of t p.0 q.0,
          (t, p.0, q.0, token, p.1, q.1, refl),
          ap (λ zs. values on (zs ++ rest)) is ∙ joined_value on op t first second rest p.0 q.0 token p.2 q.2,
        )
    spelled_form op (cons a (cons b (cons c more))) ts rest is = absurd is

  pub spelled_truth : (t : Term ScopedWord) (ts : List Token) → Spells xs s booleans t ts → HasTruth xs s v t (truth on ts)
  spelled_truth t ts is =
      let r = spelled t ts [] is in subst (HasTruth xs s v t) (sym (ap first_of (only_value on ts r.0 r.2))) r.1

pub has_spelled_truth : HasSpelledTruth
has_spelled_truth xs s v booleans on same t ts is = spelled_truth xs s v booleans on same t ts is

-- ---- one value

-- a word names one boolean
pub one_boolean : (xs : List Item) (s : OptSet) (w : ScopedWord) (a b : Symbol) → StandsFor xs s kinds.Boolean w a → StandsFor xs s kinds.Boolean w b → a ≡ b
one_boolean xs s w a b p q =
    let f = (stands_for_one xs s kinds.Boolean refl w a).0 p in
    let g = (stands_for_one xs s kinds.Boolean refl w b).0 q in
    symbol_by a b (some_same a.space b.space (sym f.1 ∙ g.1)) (f.2 ∙ sym g.2)

module _ (xs : List Item) (s : OptSet) (v : Settings) where
  mutual
    pub one_truth : (t : Term ScopedWord) (a b : Bool) → HasTruth xs s v t a → HasTruth xs s v t b → a ≡ b
    one_truth (Leaf w) a b (c, stands, p) (d, also, q) = sym p ∙ ap (λ z. v (name_of z)) (one_boolean xs s w c d stands also) ∙ q
    one_truth (Name at name) a b p q = absurd p
    one_truth (Form at op parts) a b p q = one_form_truth op parts a b p q

    one_form_truth : (op : Op) (parts : Terms ScopedWord) (a b : Bool) → FormHasTruth xs s v op parts a → FormHasTruth xs s v op parts b → a ≡ b
    one_form_truth op nil a b p q = absurd p
    one_form_truth op (cons x nil) a b (turn, inner, turned, of_x, is) (turn2, inner2, turned2, of_x2, so) =
        let e : turn ≡ turn2 = same_turn op turn turn2 turned turned2 in
        let f : inner ≡ inner2 = one_truth x inner inner2 of_x of_x2 in
        is ∙ (λ i. differ (e i) (f i)) ∙ sym so
    one_form_truth op (cons x (cons y nil)) a b (t, first, second, token, of_x, of_y, is) (t2, first2, second2, token2, of_x2, of_y2, so) =
        let e : t ≡ t2 = same_token op t t2 token token2 in
        let f : first ≡ first2 = one_truth x first first2 of_x of_x2 in
        let g : second ≡ second2 = one_truth y second second2 of_y of_y2 in
        is ∙ (λ i. truth_of (e i) (f i) (g i)) ∙ sym so
    one_form_truth op (cons x (cons y (cons z more))) a b p q = absurd p

pub has_one_truth : HasOneTruth
has_one_truth xs s v t a b p q = one_truth xs s v t a b p q

-- ---- branches

both_same : (a b : Bool) → (not (differ a b) ≡ true) ↔ (a ≡ b)
both_same true true = (λ e. refl, λ e. refl)
both_same true false = (λ e. sym e, λ e. sym e)
both_same false true = (λ e. e, λ e. e)
both_same false false = (λ e. refl, λ e. refl)

pub branches_agree : BranchesAgree
branches_agree xs s v booleans on same None None is = (λ e. tt, λ c. refl)
branches_agree xs s v booleans on same None (Some r) is = absurd is
branches_agree xs s v booleans on same (Some b) None is = absurd is
branches_agree xs s v booleans on same (Some b) (Some r) (spells, value) =
    let has = spelled_truth xs s v booleans on same b.0 r.condition spells in
    let same_values = both_same (truth on r.condition) r.value in (
      (λ active. subst (HasTruth xs s v b.0) (same_values.0 active ∙ value) has),
      (λ chosen. same_values.1 (one_truth xs s v b.0 (truth on r.condition) b.1 has chosen ∙ sym value)),
    )

-- ---- one spelling

module _ (xs : List Item) (s : OptSet) (booleans : List (List ℕ)) (one : HasOneNumber booleans) where
  mutual
    pub one_spelling : (t : Term ScopedWord) (a b : List Token) → Spells xs s booleans t a → Spells xs s booleans t b → a ≡ b
    one_spelling (Leaf w) a b (n, c, stands, at, is) (m, d, also, bt, so) =
        let same : c ≡ d = one_boolean xs s w c d stands also in
        let number : n ≡ m = one n m (name_of d) (subst (λ z. IsNumbered booleans z n) same at) bt in
        is ∙ ap (λ (k : ℕ). tokens.Boolean k ∷ []) number ∙ sym so
    one_spelling (Name at name) a b p q = absurd p
    one_spelling (Form at op parts) a b p q = one_form op parts a b p q

    one_form : (op : Op) (parts : Terms ScopedWord) (a b : List Token) → SpellsForm xs s booleans op parts a → SpellsForm xs s booleans op parts b → a ≡ b
    one_form op nil a b p q = absurd p
    one_form op (cons x nil) a b (turn, inner, turned, of_x, is) (turn2, inner2, turned2, of_x2, so) =
        let e : turn ≡ turn2 = same_turn op turn turn2 turned turned2 in
        let f : inner ≡ inner2 = one_spelling x inner inner2 of_x of_x2 in
        is ∙ (λ i. with_turn (e i) (f i)) ∙ sym so
    one_form op (cons x (cons y nil)) a b (t, first, second, token, of_x, of_y, is) (t2, first2, second2, token2, of_x2, of_y2, so) =
        let e : t ≡ t2 = same_token op t t2 token token2 in
        let f : first ≡ first2 = one_spelling x first first2 of_x of_x2 in
        let g : second ≡ second2 = one_spelling y second second2 of_y of_y2 in
        is ∙ (λ i. e i ∷ (f i ++ g i)) ∙ sym so
    one_form op (cons x (cons y (cons z more))) a b p q = absurd p

same_branch : (r q : Branch) → r.condition ≡ q.condition → r.value ≡ q.value → r ≡ q
same_branch r q c v = λ i. record { condition = c i; value = v i }

pub has_one_spelling : HasOneSpelling
has_one_spelling xs s booleans one None None None p q = refl
has_one_spelling xs s booleans one None None (Some r) p q = absurd q
has_one_spelling xs s booleans one None (Some r) o p q = absurd p
has_one_spelling xs s booleans one (Some b) None o p q = absurd p
has_one_spelling xs s booleans one (Some b) (Some r) None p q = absurd q
has_one_spelling xs s booleans one (Some b) (Some r) (Some o) p q =
    ap Some (same_branch r o (one_spelling xs s booleans one b.0 r.condition o.condition p.0 q.0) (p.1 ∙ sym q.1))

-- ---- what names booleans, and what is spelled

module _ (xs : List Item) (s : OptSet) (booleans : List (List ℕ)) where
  module _ (all : AreAllNumbered xs s booleans) where
    mutual
      said : (t : Term ScopedWord) → NamesBooleans xs s t → (ts : List Token) × Spells xs s booleans t ts
      said (Leaf w) (b, stands) = let at = all b stands.declared in (tokens.Boolean at.0 ∷ [], (at.0, b, stands, at.1, refl))
      said (Name at name) is = absurd is
      said (Form at op parts) is = said_form op parts is

      said_form : (op : Op) (parts : Terms ScopedWord) → FormNamesBooleans xs s op parts → (ts : List Token) × SpellsForm xs s booleans op parts ts
      said_form op nil is = absurd is
      said_form op (cons a nil) (turn, turned, of_a) = let r = said a of_a in (with_turn turn r.0, (turn, r.0, turned, r.1, refl))
      said_form op (cons a (cons b nil)) (t, token, of_a, of_b) =
          let p = said a of_a in
          let q = said b of_b in
          (t ∷ (p.0 ++ q.0), (t, p.0, q.0, token, p.1, q.1, refl))
      said_form op (cons a (cons b (cons c more))) is = absurd is

  mutual
    named : (t : Term ScopedWord) (ts : List Token) → Spells xs s booleans t ts → NamesBooleans xs s t
    named (Leaf w) ts (n, b, stands, at, is) = (b, stands)
    named (Name at name) ts is = absurd is
    named (Form at op parts) ts is = named_form op parts ts is

    named_form : (op : Op) (parts : Terms ScopedWord) (ts : List Token) → SpellsForm xs s booleans op parts ts → FormNamesBooleans xs s op parts
    named_form op nil ts is = absurd is
    named_form op (cons a nil) ts (turn, inner, turned, of_a, is) = (turn, turned, named a inner of_a)
    named_form op (cons a (cons b nil)) ts (t, first, second, token, of_a, of_b, is) = (t, token, named a first of_a, named b second of_b)
    named_form op (cons a (cons b (cons c more))) ts is = absurd is

pub said_is_spelled : SaidIsSpelled
said_is_spelled xs s booleans all t is = said xs s booleans all t is

pub spelled_is_said : SpelledIsSaid
spelled_is_said xs s booleans t ts is = named xs s booleans t ts is

module _ (xs : List Item) (s : OptSet) (v : Settings) where
  mutual
    true_named : (t : Term ScopedWord) (value : Bool) → HasTruth xs s v t value → NamesBooleans xs s t
    true_named (Leaf w) value (b, stands, is) = (b, stands)
    true_named (Name at name) value is = absurd is
    true_named (Form at op parts) value is = true_form op parts value is

    true_form : (op : Op) (parts : Terms ScopedWord) (value : Bool) → FormHasTruth xs s v op parts value → FormNamesBooleans xs s op parts
    true_form op nil value is = absurd is
    true_form op (cons a nil) value (turn, inner, turned, of_a, is) = (turn, turned, true_named a inner of_a)
    true_form op (cons a (cons b nil)) value (t, first, second, token, of_a, of_b, is) = (t, token, true_named a first of_a, true_named b second of_b)
    true_form op (cons a (cons b (cons c more))) value is = absurd is

pub chosen_is_said : ChosenIsSaid
chosen_is_said xs s v None is = tt
chosen_is_said xs s v (Some b) is = true_named xs s v b.0 b.1 is
