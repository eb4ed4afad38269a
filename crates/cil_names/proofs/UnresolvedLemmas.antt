-- The faults of words that name nothing, one after the other.
use Rattle.std.specs.Prelude.{if◌then◌else◌, not, ◌&&◌, None}
use Rattle.std.specs.Global.{Vec}
use Rattle.std.specs.List.{list_any}
use Rattle.std.specs.Option.{is_some}
use Rattle.std.proofs.Common.{◌≡◌, ℕ, suc, ◌+◌, ◌<◌, ◌≤◌, Bool, true, false, List, [], ◌∷◌, ◌++◌, map, length, drop, get_or, refl, sym, ◌∙◌, ap, arith, append_assoc, append-nil, drop-cons}
use Rattle.std.proofs.lemmas.List.{drop_all}
use Rattle.std.proofs.lemmas.List.Concat.{flat_map-append}
use Rattle.cil_faults.specs.declared.code.FaultCode.TheVariants as causes
use Rattle.cil_faults.specs.declared.fault.Fault.{Fault}
use Rattle.cil_syntax.specs.declared.term.LookedUp.{LookedUp}
use Rattle.cil_syntax.specs.declared.term.Op.{Op}
use Rattle.cil_syntax.specs.declared.term.Term as rust
use Rattle.cil_syntax.specs.declared.term.Word.{Word as RustWord}
use Rattle.cil_syntax.specs.Forms.{is_class_list, word_in_front}
use Rattle.cil_syntax.specs.Said.{all_said, word_in}
use Rattle.cil_syntax.specs.Spelling.{same_bytes}
use Rattle.cil_syntax.specs.Terms.{Terms, Leaf, Name, Form, cons, nil}
use Rattle.cil_faults.specs.Spots.{spot_at}
use Rattle.cil_faults.specs.Reported.{fault_at}
use Rattle.cil_faults.specs.Namespaces.{Namespace}
use Rattle.cil_syntax.specs.Scopes.{ScopedWord}
use Rattle.cil_syntax.proofs.SaidLemmas.{form_said, leaf_said, name_said}
use Rattle.cil_macros.specs.Item.{OptSet, Item, all_replaced, replaced, words_in, all_words_in}
use Rattle.cil_names.specs.Resolves.{Wanted, Word as AWord, Permission as APermission, found_in, resolves, wanted_in, all_wanted_in, words_of_class}
use Rattle.cil_names.specs.Unresolved.{fault_of_word, faults_of_all, faults_of_wanted, faults_unless_listed, fault_unless_listed, term_with, terms_with}

-- a walk over terms: what each gives, one after the other
module _ {A : Type 0} (one : rust.Term → List A) (all : List rust.Term → List A) (none : all [] ≡ []) (more : (t : rust.Term) (ts : List rust.Term) → all (t ∷ ts) ≡ one t ++ all ts) where
  pub walked_on : (ts : List rust.Term) (i : ℕ) (t d : rust.Term) (mid new total : List A) → i < length ts → t ≡ get_or ts i d → mid ++ all (drop i ts) ≡ total → new ≡ mid ++ one t
      → new ++ all (drop (i + 1) ts) ≡ total
  walked_on ts i t d mid new total within is so push =
      ap (λ l. l ++ all (drop (i + 1) ts)) push
      ∙ append_assoc mid (one t) (all (drop (i + 1) ts))
      ∙ ap (λ l. mid ++ l) (sym (more t (drop (i + 1) ts)))
      ∙ ap (λ l. mid ++ all l) (sym (drop-cons ts i d within ∙ ap (λ y. y ∷ drop (suc i) ts) (sym is) ∙ ap (λ k. t ∷ drop k ts) (let e : suc i ≡ i + 1 = omega arith in e)))
      ∙ so

  pub walked_all : (ts : List rust.Term) (i : ℕ) (new total : List A) → length ts ≤ i → new ++ all (drop i ts) ≡ total → new ≡ total
  walked_all ts i new total over so = sym (ap (λ l. new ++ all l) (drop_all i ts over) ∙ ap (λ l. new ++ l) none ∙ append-nil new) ∙ so

module _ (f : RustWord → ScopedWord) (n : Namespace) (m : ℕ) where
  -- ---- the terms of Rust, as terms of items
  pub scoped_leaf : (t : rust.Term) (w : LookedUp) → t ≡ rust.Leaf w → term_with f m t ≡ Leaf (f (word_in m w))
  unfolding replaced
  scoped_leaf t w e = ap (term_with f m) e ∙ ap (replaced (λ at. at) f) (leaf_said m w)

  pub scoped_name : (t : rust.Term) (at : ℕ) (bytes : List ℕ) → t ≡ rust.Name at bytes → term_with f m t ≡ Name (spot_at m at) bytes
  unfolding replaced
  scoped_name t at bytes e = ap (term_with f m) e ∙ ap (replaced (λ at. at) f) (name_said m at bytes)

  pub scoped_form : (t : rust.Term) (at : ℕ) (op : Op) (parts : Vec rust.Term) → t ≡ rust.Form op at parts → term_with f m t ≡ Form (spot_at m at) op (terms_with f m parts.items)
  unfolding replaced
  scoped_form t at op parts e = ap (term_with f m) e ∙ ap (replaced (λ at. at) f) (form_said m at op parts)

  -- ---- permissions

  pub no_words : all_words_in (terms_with f m []) ≡ []
  unfolding all_words_in all_replaced
  no_words = refl

  pub more_words : (t : rust.Term) (ts : List rust.Term) → all_words_in (terms_with f m (t ∷ ts)) ≡ words_in (term_with f m t) ++ all_words_in (terms_with f m ts)
  unfolding all_words_in all_replaced
  more_words t ts = refl

  module _ (permissions : List (List ℕ)) where
    abbrev pub unlisted_one : rust.Term → List Fault
    unlisted_one t = faults_unless_listed permissions n (words_in (term_with f m t))

    abbrev pub unlisted : List rust.Term → List Fault
    unlisted ts = faults_unless_listed permissions n (all_words_in (terms_with f m ts))

    pub none_unlisted : unlisted [] ≡ []
    none_unlisted = ap (faults_unless_listed permissions n) no_words

    pub more_unlisted : (t : rust.Term) (ts : List rust.Term) → unlisted (t ∷ ts) ≡ unlisted_one t ++ unlisted ts
    more_unlisted t ts =
        ap (faults_unless_listed permissions n) (more_words t ts)
        ∙ flat_map-append (fault_unless_listed permissions n) (words_in (term_with f m t)) (all_words_in (terms_with f m ts))

  -- what one term tells
  module _ (permissions : List (List ℕ)) (t : rust.Term) (old new : List Fault) where
    pub leaf_unlisted : (w : LookedUp) → t ≡ rust.Leaf w → new ≡ old ++ fault_unless_listed permissions n (f (word_in m w)) → new ≡ old ++ faults_unless_listed permissions n (words_in (term_with f m t))
    unfolding words_in
    leaf_unlisted w is push =
        push ∙ ap (λ l. old ++ l) (sym (append-nil (fault_unless_listed permissions n (f (word_in m w)))))
        ∙ sym (ap (λ u. old ++ faults_unless_listed permissions n (words_in u)) (scoped_leaf t w is))

    pub name_unlisted : (at : ℕ) (bytes : List ℕ) → t ≡ rust.Name at bytes → old ≡ old ++ faults_unless_listed permissions n (words_in (term_with f m t))
    unfolding words_in
    name_unlisted at bytes is = sym (ap (λ u. old ++ faults_unless_listed permissions n (words_in u)) (scoped_name t at bytes is) ∙ append-nil old)

    pub form_unlisted : (at : ℕ) (op : Op) (parts : Vec rust.Term) → t ≡ rust.Form op at parts → (items : List rust.Term) → items ≡ parts.items
        → new ≡ old ++ faults_unless_listed permissions n (all_words_in (terms_with f m items)) → new ≡ old ++ faults_unless_listed permissions n (words_in (term_with f m t))
    unfolding words_in
    form_unlisted at op parts is items same push =
        push ∙ ap (λ us. old ++ faults_unless_listed permissions n (all_words_in (terms_with f m us))) same
        ∙ sym (ap (λ u. old ++ faults_unless_listed permissions n (words_in u)) (scoped_form t at op parts is))

  -- ---- words

  module _ (xs : List Item) (s : OptSet) where
    abbrev pub untold_one : rust.Term → List Fault
    untold_one t = faults_of_all xs s n (wanted_in (term_with f m t))

    abbrev pub untold : List rust.Term → List Fault
    untold ts = faults_of_all xs s n (all_wanted_in (terms_with f m ts))

    pub none_untold : untold [] ≡ []
    unfolding all_wanted_in all_replaced
    none_untold = refl

    pub more_untold : (t : rust.Term) (ts : List rust.Term) → untold (t ∷ ts) ≡ untold_one t ++ untold ts
    unfolding all_wanted_in all_replaced
    more_untold t ts = flat_map-append (faults_of_wanted xs s n) (wanted_in (term_with f m t)) (all_wanted_in (terms_with f m ts))

  -- what one term tells
  module _ (xs : List Item) (s : OptSet) (t : rust.Term) (old new : List Fault) where
    pub leaf_told : (w : LookedUp) → t ≡ rust.Leaf w → new ≡ old ++ faults_of_all xs s n (AWord (f (word_in m w)) ∷ [])
        → new ≡ old ++ faults_of_all xs s n (wanted_in (term_with f m t))
    unfolding wanted_in
    leaf_told w is push = push ∙ sym (ap (λ u. old ++ faults_of_all xs s n (wanted_in u)) (scoped_leaf t w is))

    pub name_told : (at : ℕ) (bytes : List ℕ) → t ≡ rust.Name at bytes → old ≡ old ++ faults_of_all xs s n (wanted_in (term_with f m t))
    unfolding wanted_in
    name_told at bytes is = sym (ap (λ u. old ++ faults_of_all xs s n (wanted_in u)) (scoped_name t at bytes is) ∙ append-nil old)

    pub class_told : (at : ℕ) (op : Op) (parts : Vec rust.Term) → t ≡ rust.Form op at parts → (items : List rust.Term) → items ≡ parts.items → is_class_list op ≡ true
        → new ≡ old ++ faults_of_all xs s n (words_of_class (terms_with f m items)) → new ≡ old ++ faults_of_all xs s n (wanted_in (term_with f m t))
    unfolding wanted_in
    class_told at op parts is items same of_class push =
        push ∙ ap (λ us. old ++ faults_of_all xs s n (words_of_class (terms_with f m us))) same
        ∙ sym (ap (λ u. old ++ faults_of_all xs s n (wanted_in u)) (scoped_form t at op parts is)
        ∙ ap (λ b. old ++ faults_of_all xs s n (if b then words_of_class (terms_with f m parts.items) else all_wanted_in (terms_with f m parts.items))) of_class)

    pub form_told : (at : ℕ) (op : Op) (parts : Vec rust.Term) → t ≡ rust.Form op at parts → (items : List rust.Term) → items ≡ parts.items → is_class_list op ≡ false
        → new ≡ old ++ faults_of_all xs s n (all_wanted_in (terms_with f m items)) → new ≡ old ++ faults_of_all xs s n (wanted_in (term_with f m t))
    unfolding wanted_in
    form_told at op parts is items same other push =
        push ∙ ap (λ us. old ++ faults_of_all xs s n (all_wanted_in (terms_with f m us))) same
        ∙ sym (ap (λ u. old ++ faults_of_all xs s n (wanted_in u)) (scoped_form t at op parts is)
        ∙ ap (λ b. old ++ faults_of_all xs s n (if b then words_of_class (terms_with f m parts.items) else all_wanted_in (terms_with f m parts.items))) other)

-- ---- one permission

module _ (permissions : List (List ℕ)) (n : Namespace) (w : ScopedWord) (old new : List Fault) where
  pub listed_not_told : list_any (same_bytes w.bytes) permissions ≡ true → old ≡ old ++ fault_unless_listed permissions n w
  listed_not_told listed = sym (ap (λ b. old ++ (if b then [] else fault_of_word n w ∷ [])) listed ∙ append-nil old)

  pub unlisted_told : list_any (same_bytes w.bytes) permissions ≡ false → new ≡ old ++ fault_of_word n w ∷ [] → new ≡ old ++ fault_unless_listed permissions n w
  unlisted_told unlisted push = push ∙ sym (ap (λ b. old ++ (if b then [] else fault_of_word n w ∷ [])) unlisted)

-- ---- one word

module _ (xs : List Item) (s : OptSet) (n : Namespace) where
  word_missing : (w : ScopedWord) → is_some (found_in xs s w) ≡ false → faults_of_wanted xs s n (AWord w) ≡ fault_of_word n w ∷ []
  unfolding faults_of_wanted
  word_missing w e = ap (λ b. if not b then fault_of_word n w ∷ [] else []) e

  word_there : (w : ScopedWord) → is_some (found_in xs s w) ≡ true → faults_of_wanted xs s n (AWord w) ≡ []
  unfolding faults_of_wanted
  word_there w e = ap (λ b. if not b then fault_of_word n w ∷ [] else []) e

  pub word_told : (w : ScopedWord) (old new : List Fault) (b : List ℕ) → is_some (found_in xs s w) ≡ false → b ≡ w.bytes → new ≡ old ++ fault_at causes.Unresolved w.at n b ∷ []
      → new ≡ old ++ faults_of_all xs s n (AWord w ∷ [])
  word_told w old new b missing bytes push =
      push ∙ ap (λ z. old ++ fault_at causes.Unresolved w.at n z ∷ []) bytes ∙ ap (λ z. old ++ z) (sym (ap (λ l. l ++ []) (word_missing w missing)))

  pub word_not_told : (w : ScopedWord) (old : List Fault) → is_some (found_in xs s w) ≡ true → old ≡ old ++ faults_of_all xs s n (AWord w ∷ [])
  word_not_told w old there = sym (ap (λ z. old ++ z) (ap (λ l. l ++ []) (word_there w there)) ∙ append-nil old)

  -- ---- the permissions of a class

  permissions_unasked : (c : ScopedWord) → is_some (found_in xs s c) ≡ false → (ws : List ScopedWord) → faults_of_all xs s n (map (APermission c) ws) ≡ []
  unfolding faults_of_wanted
  permissions_unasked c e [] = refl
  permissions_unasked c e (w ∷ ws) =
      ap (λ b. (if b && not (resolves xs s (APermission c w)) then fault_of_word n w ∷ [] else []) ++ faults_of_all xs s n (map (APermission c) ws)) e
      ∙ permissions_unasked c e ws

  turned : (b : Bool) (fs : List Fault) → (if not b then fs else []) ≡ (if b then [] else fs)
  turned true fs = refl
  turned false fs = refl

  permissions_asked : (c : ScopedWord) (permissions : List (List ℕ)) → is_some (found_in xs s c) ≡ true
      → ((w : ScopedWord) → list_any (same_bytes w.bytes) permissions ≡ resolves xs s (APermission c w))
      → (ws : List ScopedWord) → faults_of_all xs s n (map (APermission c) ws) ≡ faults_unless_listed permissions n ws
  unfolding faults_of_wanted
  permissions_asked c permissions e same [] = refl
  permissions_asked c permissions e same (w ∷ ws) =
      ap (λ b. (if b && not (resolves xs s (APermission c w)) then fault_of_word n w ∷ [] else []) ++ faults_of_all xs s n (map (APermission c) ws)) e
      ∙ ap (λ b. (if not b then fault_of_word n w ∷ [] else []) ++ faults_of_all xs s n (map (APermission c) ws)) (sym (same w))
      ∙ ap (λ z. z ++ faults_of_all xs s n (map (APermission c) ws)) (turned (list_any (same_bytes w.bytes) permissions) (fault_of_word n w ∷ []))
      ∙ ap (λ z. fault_unless_listed permissions n w ++ z) (permissions_asked c permissions e same ws)

  pub permissions_not_told : (c : ScopedWord) (ws : List ScopedWord) (old : List Fault) → is_some (found_in xs s c) ≡ false → old ≡ old ++ faults_of_all xs s n (map (APermission c) ws)
  permissions_not_told c ws old missing = sym (ap (λ z. old ++ z) (permissions_unasked c missing ws) ∙ append-nil old)

  pub permissions_told : (c : ScopedWord) (ws : List ScopedWord) (permissions : List (List ℕ)) (old new : List Fault) → is_some (found_in xs s c) ≡ true
      → ((w : ScopedWord) → list_any (same_bytes w.bytes) permissions ≡ resolves xs s (APermission c w))
      → new ≡ old ++ faults_unless_listed permissions n ws → new ≡ old ++ faults_of_all xs s n (map (APermission c) ws)
  permissions_told c ws permissions old new there same push = push ∙ ap (λ z. old ++ z) (sym (permissions_asked c permissions there same ws))

  -- ---- a class list

  pub list_not_told : (ws : List Wanted) (old : List Fault) → ws ≡ [] → old ≡ old ++ faults_of_all xs s n ws
  list_not_told ws old e = sym (ap (λ z. old ++ faults_of_all xs s n z) e ∙ append-nil old)

  pub list_told : (ws more : List Wanted) (w : Wanted) (old mid new : List Fault) → ws ≡ w ∷ more → mid ≡ old ++ faults_of_all xs s n (w ∷ [])
      → new ≡ mid ++ faults_of_all xs s n more → new ≡ old ++ faults_of_all xs s n ws
  list_told ws more w old mid new e one rest =
      rest ∙ ap (λ z. z ++ faults_of_all xs s n more) (one ∙ ap (λ z. old ++ z) (append-nil (faults_of_wanted xs s n w)))
      ∙ append_assoc old (faults_of_wanted xs s n w) (faults_of_all xs s n more) ∙ ap (λ z. old ++ faults_of_all xs s n z) (sym e)

-- the words of a class list, by the word in front of its terms
module _ (f : RustWord → ScopedWord) (m : ℕ) where
  pub class_list_words : (terms more : List rust.Term) (w : RustWord) → all_said m terms ≡ cons (Leaf w) (all_said m more)
      → words_of_class (terms_with f m terms) ≡ AWord (f w) ∷ map (APermission (f w)) (all_words_in (terms_with f m more))
  unfolding all_replaced replaced
  class_list_words terms more w says = ap (λ ts. words_of_class (all_replaced (λ at. at) f ts)) says

  no_word_in_front : (ts : Terms RustWord) → word_in_front ts ≡ None → words_of_class (all_replaced (λ at. at) f ts) ≡ []
  unfolding all_replaced replaced
  no_word_in_front nil e = refl
  no_word_in_front (cons (Leaf w) ts) e = absurd cc
  no_word_in_front (cons (Name at bytes) ts) e = refl
  no_word_in_front (cons (Form at op parts) ts) e = refl

  pub no_class_list : (terms : List rust.Term) → word_in_front (all_said m terms) ≡ None → words_of_class (terms_with f m terms) ≡ []
  no_class_list terms none = no_word_in_front (all_said m terms) none

  -- what they mean: the word in front first
  pub class_list_meant : {Y : Type 0} (g : RustWord → Y) (terms more : List rust.Term) (w : RustWord) (old mid new : List Y) → all_said m terms ≡ cons (Leaf w) (all_said m more)
      → mid ≡ old ++ g w ∷ [] → new ≡ mid ++ map g (all_words_in (all_said m more)) → new ≡ old ++ map g (all_words_in (all_said m terms))
  unfolding all_words_in words_in
  class_list_meant g terms more w old mid new says one rest =
      rest ∙ ap (λ l. l ++ map g (all_words_in (all_said m more))) one ∙ append_assoc old (g w ∷ []) (map g (all_words_in (all_said m more)))
      ∙ ap (λ ts. old ++ map g (all_words_in ts)) (sym says)
