-- The words of the terms of a module, in order, and those behind some of them.
use Rattle.std.specs.declared.alloc.Global.{Global}
use Rattle.std.specs.declared.vec.Vec.{Vec}
use Rattle.std.proofs.Common.{◌≡◌, ℕ, ◌+◌, ◌<◌, List, [], ◌∷◌, ◌++◌, length, take, drop, get_or, refl, sym, ◌∙◌, ap, append_assoc}
use Rattle.std.proofs.lemmas.List.{append-nil, drop-drop, length-append, take_more}
use Rattle.cil_base.specs.declared.bytes.Bytes.{Bytes}
use Rattle.cil_syntax.specs.declared.term.LookedUp.{LookedUp}
use Rattle.cil_syntax.specs.declared.term.Op.{Op}
use Rattle.cil_syntax.specs.declared.term.Term as rust
use Rattle.cil_syntax.specs.declared.term.Term.{the_lemmas}
use Rattle.cil_syntax.specs.declared.term.Term.TheVariants as variants
use Rattle.cil_syntax.specs.declared.term.Word.{Word}
use Rattle.cil_syntax.specs.Said.{said_of, all_said, word_in}
use Rattle.cil_syntax.proofs.SaidLemmas.{form_said, leaf_said, name_said}
use Rattle.cil_names.specs.macros.Item.{words_in, all_words_in}

module _ (m : ℕ) where
  abbrev pub leaves_of : rust.Term → List Word
  leaves_of t = words_in (said_of m t)

  abbrev pub all_leaves : List rust.Term → List Word
  all_leaves ts = all_words_in (all_said m ts)

  pub leaves_leaf : (t : rust.Term) (w : LookedUp) → t ≡ variants.Leaf w → leaves_of t ≡ word_in m w ∷ []
  unfolding words_in
  leaves_leaf t w is = ap words_in (ap (said_of m) is ∙ leaf_said m w)

  pub leaves_name : (t : rust.Term) (at : ℕ) (bytes : Bytes) → t ≡ variants.Name at bytes → leaves_of t ≡ []
  unfolding words_in
  leaves_name t at bytes is = ap words_in (ap (said_of m) is ∙ name_said m at bytes)

  pub leaves_form : (t : rust.Term) (at : ℕ) (op : Op) (parts : Vec rust.Term Global) → t ≡ variants.Form op at parts → leaves_of t ≡ all_leaves parts.items
  unfolding words_in
  leaves_form t at op parts is = ap words_in (ap (said_of m) is ∙ form_said m at op parts)

  pub leaves_none : all_leaves [] ≡ []
  unfolding words_in
  leaves_none = refl

  leaves_cons : (x : rust.Term) (xs : List rust.Term) → all_leaves (x ∷ xs) ≡ leaves_of x ++ all_leaves xs
  unfolding words_in
  leaves_cons x xs = refl

  leaves_two : (xs : List rust.Term) (t : rust.Term) → all_leaves (xs ++ t ∷ []) ≡ all_leaves xs ++ leaves_of t
  leaves_two [] t =
      leaves_cons t [] ∙ ap (λ z. leaves_of t ++ z) leaves_none ∙ append-nil (leaves_of t) ∙ ap (λ z. z ++ leaves_of t) (sym leaves_none)
  leaves_two (x ∷ xs) t =
      leaves_cons x (xs ++ t ∷ [])
      ∙ ap (λ z. leaves_of x ++ z) (leaves_two xs t)
      ∙ sym (append_assoc (leaves_of x) (all_leaves xs) (leaves_of t))
      ∙ ap (λ z. z ++ leaves_of t) (sym (leaves_cons x xs))

  -- the words of one term more
  pub leaves_more : (xs : List rust.Term) (i : ℕ) (x : rust.Term) → i < length xs → x ≡ get_or xs i x → all_leaves (take (i + 1) xs) ≡ all_leaves (take i xs) ++ leaves_of x
  leaves_more xs i x within is =
      ap all_leaves (take_more xs i x within ∙ ap (λ z. take i xs ++ z ∷ []) (sym is)) ∙ leaves_two (take i xs) x

  -- ---- what is behind the words of a term

  module _ {Y : Type 0} (words : List Y) where
    pub behind_leaf : (t : rust.Term) (w : LookedUp) (rest : List Y) → t ≡ variants.Leaf w → rest ≡ drop 1 words → rest ≡ drop (length (leaves_of t)) words
    behind_leaf t w rest is first = first ∙ ap (λ l. drop (length l) words) (sym (leaves_leaf t w is))

    pub behind_name : (t : rust.Term) (at : ℕ) (bytes : Bytes) → t ≡ variants.Name at bytes → words ≡ drop (length (leaves_of t)) words
    behind_name t at bytes is = ap (λ l. drop (length l) words) (sym (leaves_name t at bytes is))

    pub behind_none : words ≡ drop (length (all_leaves [])) words
    behind_none = ap (λ l. drop (length l) words) (sym leaves_none)

    pub behind_more : (xs : List rust.Term) (i : ℕ) (x : rust.Term) (rest next : List Y) → i < length xs → x ≡ get_or xs i x → rest ≡ drop (length (all_leaves (take i xs))) words
        → next ≡ drop (length (leaves_of x)) rest → next ≡ drop (length (all_leaves (take (i + 1) xs))) words
    behind_more xs i x rest next within is so_far one =
        one
        ∙ ap (drop (length (leaves_of x))) so_far
        ∙ drop-drop (length (leaves_of x)) (length (all_leaves (take i xs))) words
        ∙ ap (λ n. drop n words) (sym (ap length (leaves_more xs i x within is) ∙ length-append (all_leaves (take i xs)) (leaves_of x)))

    pub behind_parts : (t : rust.Term) (at : ℕ) (op : Op) (parts : Vec rust.Term Global) (xs : List rust.Term) (rest : List Y) → t ≡ variants.Form op at parts → xs ≡ parts.items
        → rest ≡ drop (length (all_leaves xs)) words → rest ≡ drop (length (leaves_of t)) words
    behind_parts t at op parts xs rest is same so = so ∙ ap (λ l. drop (length l) words) (ap all_leaves same ∙ sym (leaves_form t at op parts is))
