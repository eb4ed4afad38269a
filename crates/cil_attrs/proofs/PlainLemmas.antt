-- What an expression asks for that names no permissions: its words.
use Rattle.std.proofs.Common.{◌≡◌, ℕ, ◌+◌, ◌<◌, ◌≤◌, Bool, true, false, ◌&&◌, not, List, [], ◌∷◌, ◌++◌, drop, get_or, length, map, if◌then◌else◌, refl, sym, ◌∙◌, ap, subst, inl, inr}
use Rattle.std.specs.Prelude.{Contains, take}
use Rattle.std.proofs.lemmas.List.{drop_all, map-append, take_all, take_more}
use Rattle.std.proofs.lemmas.List.Elements.{Contains-append_cases}
use Rattle.cil_base.specs.Lists.{contains_cases, contains_none}
use Rattle.cil_base.specs.Places.{drop_at}
use Rattle.std.specs.declared.alloc.Global.{Global}
use Rattle.std.specs.declared.vec.Vec.{Vec}
use Rattle.cil_base.specs.declared.bytes.Bytes.{Bytes}
use Rattle.cil_syntax.specs.declared.term.LookedUp.{LookedUp}
use Rattle.cil_syntax.specs.declared.term.Op.{Op}
use Rattle.cil_syntax.specs.declared.term.Term as rust
use Rattle.cil_syntax.specs.declared.term.Term.TheVariants as variants
use Rattle.cil_syntax.proofs.SaidLemmas.{form_said, leaf_said, name_said}
use Rattle.cil_syntax.specs.Said.{all_said, said_of}
use Rattle.cil_attrs.specs.declared.making.Given.{Given}
use Rattle.cil_attrs.specs.Made.{said}
use Rattle.cil_syntax.specs.declared.term.Word.{Word}
use Rattle.cil_syntax.specs.Forms.{is_class_list}
use Rattle.cil_syntax.specs.Scopes.{ScopedWord}
use Rattle.cil_syntax.specs.Terms.{Term, Leaf, Name, Form, Terms, nil, cons}
use Rattle.cil_known.specs.macros.Item.{all_replaced, all_words_in, replaced, words_in}
use Rattle.cil_known.specs.names.Resolves.{Word as AWord, all_wanted_in, wanted_in, words_of_class}
use Rattle.cil_attrs.specs.Plain.{ArePlain, are_plain, is_plain}

parts : (a b : Bool) → (a && b) ≡ true → (a ≡ true) × (b ≡ true)
parts true b e = (refl, e)
parts false b e = absurd (let c : false ≡ true = e in cc)

not_so : (a : Bool) → not a ≡ true → a ≡ false
not_so true e = absurd (let c : false ≡ true = e in cc)
not_so false e = refl

module _ (f : Word → ScopedWord) where
  mutual
    unfolding is_plain are_plain wanted_in all_wanted_in replaced all_replaced words_in all_words_in

    pub plain_wanted : (t : Term Word) → is_plain t ≡ true → wanted_in (replaced (λ at. at) f t) ≡ map AWord (words_in (replaced (λ at. at) f t))
    plain_wanted (Leaf w) e = refl
    plain_wanted (Name at bytes) e = refl
    plain_wanted (Form at op ts) e =
        let p = parts (not (is_class_list op)) (are_plain ts) e in
        ap (λ b. if b then words_of_class (all_replaced (λ at. at) f ts) else all_wanted_in (all_replaced (λ at. at) f ts)) (not_so (is_class_list op) p.0) ∙ all_plain_wanted ts p.1

    pub all_plain_wanted : (ts : Terms Word) → are_plain ts ≡ true → all_wanted_in (all_replaced (λ at. at) f ts) ≡ map AWord (all_words_in (all_replaced (λ at. at) f ts))
    all_plain_wanted nil e = refl
    all_plain_wanted (cons t ts) e =
        let p = parts (is_plain t) (are_plain ts) e in
        ap (λ l. l ++ all_wanted_in (all_replaced (λ at. at) f ts)) (plain_wanted t p.0)
        ∙ ap (λ l. map AWord (words_in (replaced (λ at. at) f t)) ++ l) (all_plain_wanted ts p.1)
        ∙ sym (map-append AWord (words_in (replaced (λ at. at) f t)) (all_words_in (all_replaced (λ at. at) f ts)))

-- ---- one after another

module _ (m : ℕ) where
  plain_cons : (t : rust.Term) (ts : List rust.Term) → are_plain (all_said m (t ∷ ts)) ≡ (is_plain (said_of m t) && are_plain (all_said m ts))
  unfolding are_plain
  plain_cons t ts = refl

  plain_nil : are_plain (all_said m []) ≡ true
  unfolding are_plain
  plain_nil = refl

  module _ (ts : List rust.Term) (i : ℕ) where
    plain_here : (t : rust.Term) → i < length ts → t ≡ get_or ts i t → are_plain (all_said m (drop i ts)) ≡ (is_plain (said_of m t) && are_plain (all_said m (drop (i + 1) ts)))
    plain_here t l is = ap (λ us. are_plain (all_said m us)) (drop_at ts i t t l is) ∙ plain_cons t (drop (i + 1) ts)

    -- a part that is plain does not matter, and one that is not tells
    pub next_plain : (t : rust.Term) → i < length ts → t ≡ get_or ts i t → is_plain (said_of m t) ≡ true → are_plain (all_said m (drop i ts)) ≡ are_plain (all_said m (drop (i + 1) ts))
    next_plain t l is e = plain_here t l is ∙ ap (λ b. b && are_plain (all_said m (drop (i + 1) ts))) e

    pub not_plain : (t : rust.Term) → i < length ts → t ≡ get_or ts i t → is_plain (said_of m t) ≡ false → are_plain (all_said m (drop i ts)) ≡ false
    not_plain t l is e = plain_here t l is ∙ ap (λ b. b && are_plain (all_said m (drop (i + 1) ts))) e

    pub last_plain : length ts ≤ i → are_plain (all_said m (drop i ts)) ≡ true
    last_plain l = ap (λ us. are_plain (all_said m us)) (drop_all i ts l) ∙ plain_nil

-- ---- all expressions

pub none_given : (givens : List Given) → ArePlain (take 0 givens)
none_given [] g c = absurd (contains_none g c)
none_given (x ∷ xs) g c = absurd (contains_none g c)

pub one_given : (givens : List Given) (i : ℕ) (x : Given) → i < length givens → x ≡ get_or givens i x → is_plain (said x) ≡ true → ArePlain (take i givens) → ArePlain (take (i + 1) givens)
one_given givens i x l is plain are g c =
    elim (Contains-append_cases (take i givens) (x ∷ []) g (subst (λ z. Contains z g) (take_more givens i x l ∙ ap (λ y. take i givens ++ y ∷ []) (sym is)) c)) [
      | inl d ↦ are g d
      | inr d ↦ elim (contains_cases g x [] d) [ inl e ↦ subst (λ z. is_plain (said z) ≡ true) e plain | inr n ↦ absurd (contains_none g n) ]
    ]

pub all_given : (givens : List Given) (i : ℕ) → length givens ≤ i → ArePlain (take i givens) → ArePlain givens
all_given givens i over are = subst ArePlain (take_all i givens over) are

-- ---- a word, a name, a form

module _ (m : ℕ) (t : rust.Term) where
  pub plain_leaf : (w : LookedUp) → t ≡ variants.Leaf w → is_plain (said_of m t) ≡ true
  unfolding is_plain
  plain_leaf w is = ap is_plain (ap (said_of m) is ∙ leaf_said m w)

  pub plain_name : (at : ℕ) (bytes : Bytes) → t ≡ variants.Name at bytes → is_plain (said_of m t) ≡ true
  unfolding is_plain
  plain_name at bytes is = ap is_plain (ap (said_of m) is ∙ name_said m at bytes)

  pub plain_form : (at : ℕ) (op : Op) (terms : Vec rust.Term Global) → t ≡ variants.Form op at terms → is_plain (said_of m t) ≡ (not (is_class_list op) && are_plain (all_said m terms.items))
  unfolding is_plain
  plain_form at op terms is = ap is_plain (ap (said_of m) is ∙ form_said m at op terms)

  pub class_form : (at : ℕ) (op : Op) (terms : Vec rust.Term Global) → t ≡ variants.Form op at terms → is_class_list op ≡ true → false ≡ is_plain (said_of m t)
  class_form at op terms is e = sym (plain_form at op terms is ∙ ap (λ b. not b && are_plain (all_said m terms.items)) e)

  pub other_form : (at : ℕ) (op : Op) (terms : Vec rust.Term Global) → t ≡ variants.Form op at terms → is_class_list op ≡ false → are_plain (all_said m terms.items) ≡ is_plain (said_of m t)
  other_form at op terms is e = sym (plain_form at op terms is ∙ ap (λ b. not b && are_plain (all_said m terms.items)) e)
