-- Laws of first reasons: there is one of each optional, and a word that one tells is judged.
use Rattle.std.specs.Prelude.{None, Some, if◌then◌else◌, map, slice_get, ◌⊎◌, ◌<◌}
use Rattle.std.proofs.Common.{◌≡◌, ℕ, zero, suc, ◌+◌, Bool, true, false, List, [], ◌∷◌, ◌++◌, length, refl, sym, ap, ◌∙◌, arith, inl, inr}
use Rattle.cil_syntax.specs.Forms.{is_class_list}
use Rattle.cil_syntax.specs.Scopes.{ScopedWord}
use Rattle.cil_syntax.specs.Terms.{Form, Leaf, Name, Term, Terms, cons, nil}
use Rattle.cil_macros.specs.Item.{Item, all_words_in}
use Rattle.cil_names.specs.Resolves.{Permission, Wanted, Word, all_wanted_in, is_judged, is_mapping, resolves, wanted_in, words_of, words_of_class, words_of_mapping}
use Rattle.cil_optionals.specs.declared.reason.Reason.{Reason}
use Rattle.cil_optionals.specs.declared.reason.Reason.TheVariants.{Missing, ParentOut}
use Rattle.cil_optionals.specs.Certificate.{Holds, all_but, left_out, missing}
use Rattle.cil_optionals.specs.First.{ComesNoLater, IsFirst}
use Rattle.cil_optionals.specs.Greatest.{OwnWord}
use Rattle.cil_optionals.proofs.BoolLemmas.{map_from}

-- ---- a class word is before its permissions

-- before each permission is the word of its class
abbrev HasClasses : List Wanted → Type 0
HasClasses ws = (j : ℕ) (c p : ScopedWord) → slice_get ws j ≡ Some (Permission c p) → (k : ℕ) × (k < j) × (slice_get ws k ≡ Some (Word c))

no_classes : HasClasses []
no_classes j c p e = absurd (let g : None ≡ Some (Permission c p) = e in cc)

one_word : (w : ScopedWord) → HasClasses (Word w ∷ [])
one_word w zero c p e = absurd (let g : Some (Word w) ≡ Some (Permission c p) = e in cc)
one_word w (suc j) c p e = absurd (let g : None ≡ Some (Permission c p) = e in cc)

class_word : (w : ScopedWord) (ps : List ScopedWord) → HasClasses (Word w ∷ map (Permission w) ps)
class_word w ps zero c p e = absurd (let g : Some (Word w) ≡ Some (Permission c p) = e in cc)
class_word w ps (suc j) c p e =
    let from = map_from (Permission w) ps j (Permission c p) e in
    let same : w ≡ c = let g : Permission c p ≡ Permission w from.0 = from.2 in cc in (0, omega arith, ap (λ z. Some (Word z)) same)

-- where what is in two lists, one behind the other, comes from
in_either : (ws vs : List Wanted) (j : ℕ) (x : Wanted) → slice_get (ws ++ vs) j ≡ Some x
    → (slice_get ws j ≡ Some x) ⊎ ((m : ℕ) × (j ≡ length ws + m) × (slice_get vs m ≡ Some x))
in_either [] vs j x e = inr (j, omega arith, e)
in_either (w ∷ ws) vs zero x e = inl e
in_either (w ∷ ws) vs (suc j) x e = elim (in_either ws vs j x e) [
  | inl h ↦ inl h
  | inr h ↦ inr (h.0, let l = h.1 in omega (arith, l), h.2)
]

in_first : (ws vs : List Wanted) (k : ℕ) (x : Wanted) → slice_get ws k ≡ Some x → slice_get (ws ++ vs) k ≡ Some x
in_first [] vs k x e = absurd (let g : None ≡ Some x = e in cc)
in_first (w ∷ ws) vs zero x e = e
in_first (w ∷ ws) vs (suc k) x e = in_first ws vs k x e

in_second : (ws vs : List Wanted) (k : ℕ) → slice_get (ws ++ vs) (length ws + k) ≡ slice_get vs k
in_second [] vs k = ap (slice_get vs) (let e : 0 + k ≡ k = omega arith in e)
in_second (w ∷ ws) vs k = ap (slice_get (w ∷ (ws ++ vs))) (let e : suc (length ws) + k ≡ suc (length ws + k) = omega arith in e) ∙ in_second ws vs k

both_classes : (ws vs : List Wanted) → HasClasses ws → HasClasses vs → HasClasses (ws ++ vs)
both_classes ws vs first second j c p e = elim (in_either ws vs j (Permission c p) e) [
  | inl h ↦ let k = first j c p h in (k.0, k.1, in_first ws vs k.0 (Word c) k.2)
  | inr h ↦
      let k = second h.0 c p h.2 in
      let l = k.1 in
      let at = h.1 in (length ws + k.0, omega (arith, l, at), in_second ws vs k.0 ∙ k.2)
]

either_classes : (b : Bool) (ws vs : List Wanted) → HasClasses ws → HasClasses vs → HasClasses (if b then ws else vs)
either_classes true ws vs first second = first
either_classes false ws vs first second = second

of_class : (ts : Terms ScopedWord) → HasClasses (words_of_class ts)
of_class nil = no_classes
of_class (cons (Leaf w) rest) = class_word w (all_words_in rest)
of_class (cons (Name at name) rest) = no_classes
of_class (cons (Form at op parts) rest) = no_classes

mutual
  unfolding wanted_in all_wanted_in

  of_term : (t : Term ScopedWord) → HasClasses (wanted_in t)
  of_term (Leaf w) = one_word w
  of_term (Name at name) = no_classes
  of_term (Form at op parts) = either_classes (is_class_list op) (words_of_class parts) (all_wanted_in parts) (of_class parts) (of_terms parts)

  of_terms : (ts : Terms ScopedWord) → HasClasses (all_wanted_in ts)
  of_terms nil = no_classes
  of_terms (cons t ts) = both_classes (wanted_in t) (all_wanted_in ts) (of_term t) (of_terms ts)

of_mapping : (ts : Terms ScopedWord) → HasClasses (words_of_mapping ts)
of_mapping nil = no_classes
of_mapping (cons m nil) = of_class (cons m nil)
of_mapping (cons m (cons r rest)) = both_classes (words_of_class (cons m (cons r nil))) (all_wanted_in rest) (of_class (cons m (cons r nil))) (of_terms rest)

of_item : (x : Item) → HasClasses (words_of x)
of_item x = either_classes (is_mapping x.keyword) (words_of_mapping x.args) (all_wanted_in x.args) (of_mapping x.args) (of_terms x.args)

-- ---- a word that is told is judged

not_before : (o i j k : ℕ) → k < j → ComesNoLater (Missing o i j) (Missing o i k) → ⊥
not_before o i j k l c = elim c [
  | inl m ↦ omega (arith, m)
  | inr m ↦ let n = m.1 in omega (arith, l, n)
]

pub first_is_judged : (xs : List Item) (out : List ℕ) (o i j : ℕ) (w : Wanted) → IsFirst xs out (Missing o i j) → OwnWord xs o i j w → is_judged xs (all_but xs out) w ≡ true
first_is_judged xs out o i j (Word w) first own = refl
first_is_judged xs out o i j (Permission c p) first own =
    let class_ = of_item own.statement j c p own.word in
    by (resolves xs (all_but xs out) (Word c)) refl class_.0 class_.1 class_.2
  where
    by : (b : Bool) → resolves xs (all_but xs out) (Word c) ≡ b → (k : ℕ) → k < j → slice_get (words_of own.statement) k ≡ Some (Word c) → b ≡ true
    by true e k l there = refl
    by false e k l there =
        absurd (not_before o i j k l (first (Missing o i k) refl
        (missing o i k (Word c) (record { statement = own.statement; is_there = own.is_there; own = own.own; word = there }) e)))

-- ---- there is one first reason

same_place : (o i j p k l : ℕ) → o ≡ p → i ≡ k → j ≡ l → Missing o i j ≡ Missing p k l
same_place o i j p k l e f g = λ n. Missing (e n) (f n) (g n)

pub no_other : (q r : Reason) → left_out q ≡ left_out r → ComesNoLater q r → ComesNoLater r q → q ≡ r
no_other (ParentOut o) (ParentOut p) same c d = ap ParentOut same
no_other (ParentOut o) (Missing p k l) same c d = absurd d
no_other (Missing o i j) (ParentOut p) same c d = absurd c
no_other (Missing o i j) (Missing p k l) same c d = elim c [
  | inl m ↦ elim d [
    | inl n ↦ absurd (omega (arith, m, n))
    | inr n ↦ absurd (let e = n.0 in omega (arith, m, e))
  ]
  | inr m ↦ elim d [
    | inl n ↦ absurd (let e = m.0 in omega (arith, n, e))
    | inr n ↦ same_place o i j p k l same m.0 (let e = m.1 in let f = n.1 in omega (arith, e, f))
  ]
]

pub one_first : (xs : List Item) (out : List ℕ) (q r : Reason) → left_out q ≡ left_out r → Holds xs out q → Holds xs out r → IsFirst xs out q → IsFirst xs out r → q ≡ r
one_first xs out q r same of_q of_r first_q first_r = no_other q r same (first_q r (sym same) of_r) (first_r q same of_q)
