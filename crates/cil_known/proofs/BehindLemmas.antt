-- The meanings behind those of what some terms ask for.
use Rattle.std.proofs.Common.{◌≡◌, ℕ, ◌+◌, ◌<◌, true, false, List, [], ◌∷◌, ◌++◌, length, take, drop, get_or, refl, sym, ◌∙◌, ap, append_assoc, arith}
use Rattle.std.specs.Prelude.{None}
use Rattle.std.specs.Global.{Vec}
use Rattle.std.proofs.lemmas.List.{append-nil, drop-drop, length-append, length-map, take_more}
use Rattle.cil_syntax.specs.Forms.{is_class_list, word_in_front}
use Rattle.cil_syntax.specs.Said.{all_said, word_in}
use Rattle.cil_syntax.specs.Scopes.{ScopedWord}
use Rattle.cil_syntax.specs.Terms.{Leaf, cons}
use Rattle.cil_syntax.specs.declared.term.LookedUp.{LookedUp}
use Rattle.cil_syntax.specs.declared.term.Op.{Op}
use Rattle.cil_syntax.specs.declared.term.Term as rust
use Rattle.cil_syntax.specs.declared.term.Word.{Word as RustWord}
use Rattle.cil_names.specs.macros.Item.{all_words_in}
use Rattle.cil_names.specs.Resolves.{Permission as APermission, Word as AWord, words_of_class}
use Rattle.cil_names.specs.Unresolved.{terms_with}
use Rattle.cil_names.proofs.AskedLemmas.{all_asked_in, asked_in, class_asked, form_asked, leaf_asked, more_asked, name_asked, none_asked}
use Rattle.cil_names.proofs.ReadingLemmas.{words_of_terms}
use Rattle.cil_names.proofs.UnresolvedLemmas.{class_list_words, no_class_list}

module _ (f : RustWord → ScopedWord) (m : ℕ) where
  asked_two : (xs : List rust.Term) (t : rust.Term) → all_asked_in f m (xs ++ t ∷ []) ≡ all_asked_in f m xs ++ asked_in f m t
  asked_two [] t =
      more_asked f m t [] ∙ ap (λ z. asked_in f m t ++ z) (none_asked f m) ∙ append-nil (asked_in f m t) ∙ ap (λ z. z ++ asked_in f m t) (sym (none_asked f m))
  asked_two (x ∷ xs) t =
      more_asked f m x (xs ++ t ∷ [])
      ∙ ap (λ z. asked_in f m x ++ z) (asked_two xs t)
      ∙ sym (append_assoc (asked_in f m x) (all_asked_in f m xs) (asked_in f m t))
      ∙ ap (λ z. z ++ asked_in f m t) (sym (more_asked f m x xs))

  asked_more : (xs : List rust.Term) (i : ℕ) (x : rust.Term) → i < length xs → x ≡ get_or xs i x → all_asked_in f m (take (i + 1) xs) ≡ all_asked_in f m (take i xs) ++ asked_in f m x
  asked_more xs i x within is = ap (all_asked_in f m) (take_more xs i x within ∙ ap (λ z. take i xs ++ z ∷ []) (sym is)) ∙ asked_two (take i xs) x

  module _ {Y : Type 0} (words : List Y) where
    pub behind_nothing : words ≡ drop (length (all_asked_in f m [])) words
    behind_nothing = ap (λ l. drop (length l) words) (sym (none_asked f m))

    pub behind_asked : (xs : List rust.Term) (i : ℕ) (x : rust.Term) (rest next : List Y) → i < length xs → x ≡ get_or xs i x → rest ≡ drop (length (all_asked_in f m (take i xs))) words
        → next ≡ drop (length (asked_in f m x)) rest → next ≡ drop (length (all_asked_in f m (take (i + 1) xs))) words
    behind_asked xs i x rest next within is so_far one =
        one
        ∙ ap (drop (length (asked_in f m x))) so_far
        ∙ drop-drop (length (asked_in f m x)) (length (all_asked_in f m (take i xs))) words
        ∙ ap (λ n. drop n words) (sym (ap length (asked_more xs i x within is) ∙ length-append (all_asked_in f m (take i xs)) (asked_in f m x)))

    module _ (t : rust.Term) where
      pub behind_leaf : (w : LookedUp) (rest : List Y) → t ≡ rust.Leaf w → rest ≡ drop 1 words → rest ≡ drop (length (asked_in f m t)) words
      behind_leaf w rest is first = first ∙ ap (λ l. drop (length l) words) (leaf_asked f m t [] (AWord (f (word_in m w)) ∷ []) w is refl)

      pub behind_name : (at : ℕ) (bytes : List ℕ) → t ≡ rust.Name at bytes → words ≡ drop (length (asked_in f m t)) words
      behind_name at bytes is = ap (λ l. drop (length l) words) (name_asked f m t [] [] at bytes is)

      pub behind_class : (at : ℕ) (op : Op) (parts : Vec rust.Term) (rest : List Y) → t ≡ rust.Form op at parts → (items : List rust.Term) → items ≡ parts.items → is_class_list op ≡ true
          → rest ≡ drop (length (words_of_class (terms_with f m items))) words → rest ≡ drop (length (asked_in f m t)) words
      behind_class at op parts rest is items same of_class so =
          so ∙ ap (λ l. drop (length l) words) (class_asked f m t [] (words_of_class (terms_with f m items)) at op parts is items same of_class refl)

      pub behind_form : (at : ℕ) (op : Op) (parts : Vec rust.Term) (rest : List Y) → t ≡ rust.Form op at parts → (items : List rust.Term) → items ≡ parts.items → is_class_list op ≡ false
          → rest ≡ drop (length (all_asked_in f m items)) words → rest ≡ drop (length (asked_in f m t)) words
      behind_form at op parts rest is items same other so =
          so ∙ ap (λ l. drop (length l) words) (form_asked f m t [] (all_asked_in f m items) at op parts is items same other refl)

    module _ (terms : List rust.Term) where
      pub behind_no_list : word_in_front (all_said m terms) ≡ None → words ≡ drop (length (words_of_class (terms_with f m terms))) words
      behind_no_list none = ap (λ l. drop (length l) words) (sym (no_class_list f m terms none))

      pub behind_list : (more : List rust.Term) (w : RustWord) (mid rest : List Y) → all_said m terms ≡ cons (Leaf w) (all_said m more) → mid ≡ drop 1 words
          → rest ≡ drop (length (all_words_in (all_said m more))) mid → rest ≡ drop (length (words_of_class (terms_with f m terms))) words
      behind_list more w mid rest says first so =
          let ws = all_words_in (terms_with f m more) in
          let whole = ap length (class_list_words f m terms more w says) in
          let permissions = length-map ws (APermission (f w)) in
          let same = ap length (words_of_terms f (all_said m more)) ∙ length-map (all_words_in (all_said m more)) f in
          so
          ∙ ap (drop (length (all_words_in (all_said m more)))) first
          ∙ drop-drop (length (all_words_in (all_said m more))) 1 words
          ∙ ap (λ n. drop n words) (let e : 1 + length (all_words_in (all_said m more)) ≡ length (words_of_class (terms_with f m terms)) = omega (arith, whole, permissions, same) in e)
