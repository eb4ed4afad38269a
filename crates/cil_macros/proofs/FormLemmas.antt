-- Terms whose words are replaced have the same forms, and their words in the same order.
use Rattle.std.specs.Prelude.{None}
use Rattle.std.proofs.Common.{◌≡◌, ◌++◌, map, refl, sym, ◌∙◌, ap}
use Rattle.std.proofs.lemmas.List.{map-append}
use Rattle.std.proofs.lemmas.Option.{none-some}
use Rattle.cil_base.specs.declared.bytes.Bytes.{Bytes}
use Rattle.cil_syntax.specs.declared.term.Op.{Op}
use Rattle.cil_syntax.specs.declared.term.Op.TheVariants as ops
use Rattle.cil_faults.specs.declared.spot.Spot.{Spot}
use Rattle.cil_syntax.specs.declared.term.Word.{Word}
use Rattle.cil_syntax.specs.Forms.{class_form, rule_form, two_words, word_and_term}
use Rattle.cil_syntax.specs.Terms.{Term, Leaf, Name, Form, Terms, nil, cons}
use Rattle.cil_macros.specs.Item.{replaced, all_replaced, words_in, all_words_in}
use Rattle.cil_syntax.specs.Scopes.{ScopedWord}

module _ (f : Word → ScopedWord) where
  abbrev pub across : Term Word → Term ScopedWord
  across = replaced (λ at. at) f

  abbrev pub all_across : Terms Word → Terms ScopedWord
  all_across = all_replaced (λ at. at) f

  pub no_word : (ts : Terms Word) → word_and_term ts ≡ None → word_and_term (all_across ts) ≡ None
  unfolding all_replaced
  no_word nil e = refl
  no_word (cons (Leaf a) nil) e = refl
  no_word (cons (Leaf a) (cons b nil)) e = absurd (none-some _ (sym e))
  no_word (cons (Leaf a) (cons b (cons c ts))) e = refl
  no_word (cons (Name at bytes) ts) e = refl
  no_word (cons (Form at op parts) ts) e = refl

  pub no_class : (t : Term Word) → class_form t ≡ None → class_form (across t) ≡ None
  unfolding replaced
  no_class (Leaf w) e = refl
  no_class (Name at bytes) e = refl
  no_class (Form at ops.ClassPermissions parts) e = no_word parts e
  no_class (Form at op parts) e = refl

  pub no_rule : (ts : Terms Word) → rule_form ts ≡ None → rule_form (all_across ts) ≡ None
  unfolding all_replaced
  no_rule nil e = refl
  no_rule (cons (Leaf a) nil) e = refl
  no_rule (cons (Leaf a) (cons b nil)) e = refl
  no_rule (cons (Leaf a) (cons b (cons c nil))) e = absurd (none-some _ (sym e))
  no_rule (cons (Leaf a) (cons b (cons c (cons d ts)))) e = refl
  no_rule (cons (Name at bytes) ts) e = refl
  no_rule (cons (Form at op parts) ts) e = refl

  pub class_across : (at : Spot) (w : Word) (t : Term Word)
      → across (Form at ops.ClassPermissions (cons (Leaf w) (cons t nil))) ≡ Form at ops.ClassPermissions (cons (Leaf (f w)) (cons (across t) nil))
  unfolding replaced
  class_across at w t = refl

  pub rule_across : (w : Word) (t c : Term Word) → all_across (cons (Leaf w) (cons t (cons c nil))) ≡ cons (Leaf (f w)) (cons (across t) (cons (across c) nil))
  unfolding all_replaced
  rule_across w t c = refl

  pub leaf_across : (w : Word) → across (Leaf w) ≡ Leaf (f w)
  unfolding replaced
  leaf_across w = refl

  pub name_across : (at : Spot) (bytes : Bytes) → across (Name at bytes) ≡ Name at bytes
  unfolding replaced
  name_across at bytes = refl

  pub form_across : (at : Spot) (op : Op) (parts : Terms Word) → across (Form at op parts) ≡ Form at op (all_across parts)
  unfolding replaced
  form_across at op parts = refl

  -- ---- two words

  pub no_pair : (ts : Terms Word) → two_words ts ≡ None → two_words (all_across ts) ≡ None
  unfolding all_replaced
  no_pair nil e = refl
  no_pair (cons (Leaf a) nil) e = refl
  no_pair (cons (Leaf a) (cons (Leaf b) nil)) e = absurd (none-some _ (sym e))
  no_pair (cons (Leaf a) (cons (Leaf b) (cons c ts))) e = refl
  no_pair (cons (Leaf a) (cons (Name at bytes) ts)) e = refl
  no_pair (cons (Leaf a) (cons (Form at op parts) ts)) e = refl
  no_pair (cons (Name at bytes) ts) e = refl
  no_pair (cons (Form at op parts) ts) e = refl

  pub pair_across : (a b : Word) → all_across (cons (Leaf a) (cons (Leaf b) nil)) ≡ cons (Leaf (f a)) (cons (Leaf (f b)) nil)
  unfolding all_replaced
  pair_across a b = refl

  -- ---- the words of terms

  mutual
    unfolding replaced words_in

    pub words_across : (t : Term Word) → words_in (across t) ≡ map f (words_in t)
    words_across (Leaf w) = refl
    words_across (Name at bytes) = refl
    words_across (Form at op parts) = all_words_across parts

    pub all_words_across : (ts : Terms Word) → all_words_in (all_across ts) ≡ map f (all_words_in ts)
    all_words_across nil = refl
    all_words_across (cons t ts) =
        ap (λ z. z ++ all_words_in (all_across ts)) (words_across t)
        ∙ ap (λ z. map f (words_in t) ++ z) (all_words_across ts)
        ∙ sym (map-append f (words_in t) (all_words_in ts))
