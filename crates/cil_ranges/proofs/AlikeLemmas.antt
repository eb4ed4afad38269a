-- Terms that are the same but for the places of their names and lists: they have the same forms, values and parts.
use Rattle.std.specs.Prelude.{Option, map}
use Rattle.std.proofs.Common.{◌≡◌, ℕ, Bool, ◌&&◌, ◌||◌, if◌then◌else◌, ltb, List, [], ◌∷◌, ◌++◌, refl, sym, ◌∙◌, ap}
use Rattle.std.proofs.lemmas.List.{map-append}
use Rattle.cil_faults.specs.declared.spot.Spot.{Spot}
use Rattle.cil_syntax.specs.declared.term.Op.{Op}
use Rattle.cil_syntax.specs.declared.term.Word.{Word}
use Rattle.cil_syntax.specs.Expressions.{by_way, differ, is_in, is_in_each, is_in_odd, is_in_some, way_of}
use Rattle.cil_syntax.specs.Forms.{is_class_list}
use Rattle.cil_syntax.specs.Scopes.{ScopedWord}
use Rattle.cil_syntax.specs.Terms.{Term, Leaf, Name, Form, Terms, nil, cons}
use Rattle.cil_macros.specs.Item.{all_replaced, all_words_in, replaced, words_in}
use Rattle.cil_macros.specs.ListTerms.{AreAlike, IsAlike, all_spotless, nowhere, spotless}
use Rattle.cil_names.specs.Resolves.{Permission as APermission, Word as AWord, all_wanted_in, wanted_in, words_of_class}
use Rattle.cil_mls.specs.declared.expression.Held.{Held}
use Rattle.cil_mls.specs.Values.{in_span, in_term, is_held, meant_held}

-- ---- forms

abbrev first_or : Term ScopedWord → Terms ScopedWord → Term ScopedWord
first_or d nil = d
first_or d (cons t ts) = t

abbrev rest_in : Terms ScopedWord → Terms ScopedWord
rest_in nil = nil
rest_in (cons t ts) = ts

abbrev parts_in : Term ScopedWord → Terms ScopedWord
parts_in (Leaf w) = nil
parts_in (Name at bytes) = nil
parts_in (Form at op ts) = ts

pub none_alike : (us : Terms ScopedWord) → AreAlike nil us → us ≡ nil
unfolding all_replaced
none_alike nil e = refl
none_alike (cons u us) e = absurd (let f : nil ≡ cons (spotless u) (all_spotless us) = e in cc)

pub cons_alike : (t : Term ScopedWord) (ts us : Terms ScopedWord) → AreAlike (cons t ts) us → (u : Term ScopedWord) × (vs : Terms ScopedWord) × (us ≡ cons u vs) × IsAlike t u × AreAlike ts vs
unfolding all_replaced
cons_alike t ts nil e = absurd (let f : cons (spotless t) (all_spotless ts) ≡ nil = e in cc)
cons_alike t ts (cons u vs) e = (u, vs, refl, ap (first_or (spotless t)) e, ap rest_in e)

pub leaf_alike : (w : ScopedWord) (u : Term ScopedWord) → IsAlike (Leaf w) u → u ≡ Leaf w
unfolding replaced
leaf_alike w (Leaf v) e = sym e
leaf_alike w (Name at bytes) e = absurd (let f : Leaf w ≡ Name nowhere bytes = e in cc)
leaf_alike w (Form at op ts) e = absurd (let f : Leaf w ≡ Form nowhere op (all_spotless ts) = e in cc)

pub name_alike : (at : Spot) (bytes : List ℕ) (u : Term ScopedWord) → IsAlike (Name at bytes) u → (bt : Spot) × (u ≡ Name bt bytes)
unfolding replaced
name_alike at bytes (Leaf v) e = absurd (let f : Name nowhere bytes ≡ Leaf v = e in cc)
name_alike at bytes (Name bt other) e = let f : Name nowhere bytes ≡ Name nowhere other = e in let same : bytes ≡ other = cc in (bt, ap (Name bt) (sym same))
name_alike at bytes (Form bt op ts) e = absurd (let f : Name nowhere bytes ≡ Form nowhere op (all_spotless ts) = e in cc)

pub form_alike : (at : Spot) (op : Op) (ts : Terms ScopedWord) (u : Term ScopedWord) → IsAlike (Form at op ts) u → (bt : Spot) × (us : Terms ScopedWord) × (u ≡ Form bt op us) × AreAlike ts us
unfolding replaced
form_alike at op ts (Leaf v) e = absurd (let f : Form nowhere op (all_spotless ts) ≡ Leaf v = e in cc)
form_alike at op ts (Name bt bytes) e = absurd (let f : Form nowhere op (all_spotless ts) ≡ Name nowhere bytes = e in cc)
form_alike at op ts (Form bt other us) e =
    let f : Form nowhere op (all_spotless ts) ≡ Form nowhere other (all_spotless us) = e in
    let same : op ≡ other = cc in
    (bt, us, ap (λ o. Form bt o us) (sym same), ap parts_in f)

-- ---- values

module _ {L M : Type 0} (a : Spot → Spot) (f : L → M) where
  module _ (p : M → Bool) (among : Bool) (r : Terms M → Bool) (s : Terms L → Bool) (ranges : (ts : Terms L) → r (all_replaced a f ts) ≡ s ts) where
    mutual
      unfolding replaced all_replaced is_in is_in_some is_in_each is_in_odd

      in_replaced : (e : Term L) → is_in p among r (replaced a f e) ≡ is_in (λ w. p (f w)) among s e
      in_replaced (Leaf w) = refl
      in_replaced (Name at x) = refl
      in_replaced (Form at op ts) = λ i. by_way (way_of op) among (some_replaced ts i) (each_replaced ts i) (odd_replaced ts i) (ranges ts i)

      some_replaced : (ts : Terms L) → is_in_some p among r (all_replaced a f ts) ≡ is_in_some (λ w. p (f w)) among s ts
      some_replaced nil = refl
      some_replaced (cons t ts) = λ i. in_replaced t i || some_replaced ts i

      each_replaced : (ts : Terms L) → is_in_each p among r (all_replaced a f ts) ≡ is_in_each (λ w. p (f w)) among s ts
      each_replaced nil = refl
      each_replaced (cons t ts) = λ i. in_replaced t i && each_replaced ts i

      odd_replaced : (ts : Terms L) → is_in_odd p among r (all_replaced a f ts) ≡ is_in_odd (λ w. p (f w)) among s ts
      odd_replaced nil = refl
      odd_replaced (cons t ts) = λ i. differ (in_replaced t i) (odd_replaced ts i)

  module _ (helds : List Held) (count : ℕ) (g : M → Option ℕ) (c : ℕ) where
    span_replaced : (ts : Terms L) → in_span helds g c (all_replaced a f ts) ≡ in_span helds (λ w. g (f w)) c ts
    unfolding replaced all_replaced
    span_replaced nil = refl
    span_replaced (cons t nil) = refl
    span_replaced (cons (Name at x) (cons b rest)) = refl
    span_replaced (cons (Form at op ts) (cons b rest)) = refl
    span_replaced (cons (Leaf v) (cons (Name at x) rest)) = refl
    span_replaced (cons (Leaf v) (cons (Form at op ts) rest)) = refl
    span_replaced (cons (Leaf v) (cons (Leaf w) nil)) = refl
    span_replaced (cons (Leaf v) (cons (Leaf w) (cons d rest))) = refl

    pub value_replaced : (e : Term L) → in_term helds count g c (replaced a f e) ≡ in_term helds count (λ w. g (f w)) c e
    value_replaced e = in_replaced (λ w. is_held c (meant_held helds (g w))) (ltb c count) (in_span helds g c) (in_span helds (λ w. g (f w)) c) span_replaced e

pub same_value : (helds : List Held) (count : ℕ) (g : ScopedWord → Option ℕ) (c : ℕ) (f : Word → ScopedWord) (t : Term Word) (u : Term ScopedWord) → IsAlike (replaced (λ at. at) f t) u
    → in_term helds count (λ w. g (f w)) c t ≡ in_term helds count g c u
same_value helds count g c f t u same =
    sym (value_replaced (λ at. at) f helds count g c t) ∙ sym (value_replaced (λ at. nowhere) (λ w. w) helds count g c (replaced (λ at. at) f t))
    ∙ ap (in_term helds count g c) same ∙ value_replaced (λ at. nowhere) (λ w. w) helds count g c u

-- ---- words

module _ {L M : Type 0} (a : Spot → Spot) (f : L → M) where
  mutual
    unfolding replaced all_replaced words_in all_words_in

    words_replaced : (t : Term L) → words_in (replaced a f t) ≡ map f (words_in t)
    words_replaced (Leaf w) = refl
    words_replaced (Name at bytes) = refl
    words_replaced (Form at op ts) = all_words_replaced ts

    all_words_replaced : (ts : Terms L) → all_words_in (all_replaced a f ts) ≡ map f (all_words_in ts)
    all_words_replaced nil = refl
    all_words_replaced (cons t ts) = (λ i. words_replaced t i ++ all_words_replaced ts i) ∙ sym (map-append f (words_in t) (all_words_in ts))

map_same : {L : Type 0} (ws : List L) → map (λ w. w) ws ≡ ws
map_same [] = refl
map_same (w ∷ ws) = ap (λ z. w ∷ z) (map_same ws)

pub words_alike : (f : Word → ScopedWord) (t : Term Word) (u : Term ScopedWord) → IsAlike (replaced (λ at. at) f t) u → words_in u ≡ map f (words_in t)
words_alike f t u same =
    sym (map_same (words_in u)) ∙ sym (words_replaced (λ at. nowhere) (λ w. w) u) ∙ ap words_in (sym same) ∙ words_replaced (λ at. nowhere) (λ w. w) (replaced (λ at. at) f t)
    ∙ map_same (words_in (replaced (λ at. at) f t)) ∙ words_replaced (λ at. at) f t

pub all_words_alike : (f : Word → ScopedWord) (ts : Terms Word) (us : Terms ScopedWord) → AreAlike (all_replaced (λ at. at) f ts) us → all_words_in us ≡ map f (all_words_in ts)
all_words_alike f ts us same =
    sym (map_same (all_words_in us)) ∙ sym (all_words_replaced (λ at. nowhere) (λ w. w) us) ∙ ap all_words_in (sym same) ∙ all_words_replaced (λ at. nowhere) (λ w. w) (all_replaced (λ at. at) f ts)
    ∙ map_same (all_words_in (all_replaced (λ at. at) f ts)) ∙ all_words_replaced (λ at. at) f ts

-- ---- what they ask for

class_words : (ts : Terms ScopedWord) → words_of_class (all_spotless ts) ≡ words_of_class ts
unfolding replaced all_replaced
class_words nil = refl
class_words (cons (Leaf w) ts) = ap (λ ws. AWord w ∷ map (APermission w) ws) (all_words_replaced (λ at. nowhere) (λ w. w) ts ∙ map_same (all_words_in ts))
class_words (cons (Name at bytes) ts) = refl
class_words (cons (Form at op parts) ts) = refl

mutual
  unfolding replaced all_replaced wanted_in all_wanted_in

  wanted_spotless : (t : Term ScopedWord) → wanted_in (spotless t) ≡ wanted_in t
  wanted_spotless (Leaf w) = refl
  wanted_spotless (Name at bytes) = refl
  wanted_spotless (Form at op ts) = λ i. if is_class_list op then class_words ts i else all_wanted_spotless ts i

  all_wanted_spotless : (ts : Terms ScopedWord) → all_wanted_in (all_spotless ts) ≡ all_wanted_in ts
  all_wanted_spotless nil = refl
  all_wanted_spotless (cons t ts) = λ i. wanted_spotless t i ++ all_wanted_spotless ts i

pub wanted_alike : (t u : Term ScopedWord) → IsAlike t u → wanted_in t ≡ wanted_in u
wanted_alike t u same = sym (wanted_spotless t) ∙ ap wanted_in same ∙ wanted_spotless u

pub all_wanted_alike : (ts us : Terms ScopedWord) → AreAlike ts us → all_wanted_in ts ≡ all_wanted_in us
all_wanted_alike ts us same = sym (all_wanted_spotless ts) ∙ ap all_wanted_in same ∙ all_wanted_spotless us
