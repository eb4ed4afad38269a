-- What the terms of a placed statement ask for, one after another.
use Rattle.std.proofs.Common.{◌≡◌, ℕ, zero, suc, ◌+◌, ◌<◌, ◌≤◌, true, false, if◌then◌else◌, List, [], ◌∷◌, ◌++◌, map, length, drop, get_or, refl, sym, ◌∙◌, ap, arith, append-nil, append_assoc, take}
use Rattle.std.specs.List.{flat_map}
use Rattle.std.proofs.lemmas.List.Concat.{flat_map-append}
use Rattle.std.proofs.lemmas.List.{drop_all, take_all, map-append}
use Rattle.std.proofs.lemmas.Simd.{map-map}
use Rattle.cil_base.specs.MadeLists.{one_flat}
use Rattle.cil_base.specs.Places.{drop_at}
use Rattle.std.specs.Prelude.{MatchOption, None, Option, Some, slice_get}
use Rattle.std.specs.Global.{Vec}
use Rattle.std.specs.Option.{option_map}
use Rattle.cil_syntax.specs.Forms.{is_class_list}
use Rattle.cil_syntax.specs.declared.term.LookedUp.{LookedUp}
use Rattle.cil_syntax.specs.declared.term.Op.{Op}
use Rattle.cil_syntax.specs.declared.term.Term as rust
use Rattle.cil_syntax.specs.declared.term.Word.{Word as RustWord}
use Rattle.cil_syntax.specs.Said.{word_in}
use Rattle.cil_syntax.specs.Scopes.{ScopedWord}
use Rattle.cil_macros.specs.declared.placed_word.PlacedWord.{PlacedWord}
use Rattle.cil_macros.specs.Item.{Item, all_replaced, all_words_in, words_in}
use Rattle.cil_macros.specs.Items.{scoped_by}
use Rattle.cil_macros.specs.Placed.{Placed}
use Rattle.cil_names.specs.declared.asked.Asked.{Asked}
use Rattle.cil_names.specs.Asked.{wanted_by}
use Rattle.cil_names.specs.Resolves.{Wanted, Word as AWord, Permission as APermission, all_wanted_in, told_at, told_word, wanted_in, words_of, words_of_class}
use Rattle.cil_names.specs.Unresolved.{term_with, terms_with}
use Rattle.cil_names.proofs.UnresolvedLemmas.{scoped_form, scoped_leaf, scoped_name}

-- one more, mapped
pub one_pushed : {X Y : Type 0} (g : X → Y) (old new : List X) (x : X) → new ≡ old ++ x ∷ [] → map g new ≡ map g old ++ g x ∷ []
one_pushed g old new x e = ap (map g) e ∙ map-append g old (x ∷ [])

-- one more, and what it gives
pub one_asked : {X Y : Type 0} (g : X → List Y) (old new : List X) (x : X) → new ≡ old ++ x ∷ [] → flat_map g new ≡ flat_map g old ++ g x
one_asked g old new x e = ap (flat_map g) e ∙ flat_map-append g old (x ∷ []) ∙ ap (λ l. flat_map g old ++ l) (append-nil (g x))

-- behind nothing
pub asked_from : {X Y : Type 0} (g : X → List Y) (old new : List X) (more : List Y) → old ≡ [] → flat_map g new ≡ flat_map g old ++ more → flat_map g new ≡ more
asked_from g old new more none e = e ∙ ap (λ l. flat_map g l ++ more) none

-- nothing is asked for
pub nothing_asked : {X Y : Type 0} (g : X → List Y) (old : List X) → old ≡ [] → flat_map g old ≡ []
nothing_asked g old none = ap (flat_map g) none

-- ---- by number

got_first : {Y Z : Type 0} (h : Y → Z) (xs ys : List Y) (n : ℕ) (z : Z) → option_map h (slice_get xs n) ≡ Some z → option_map h (slice_get (xs ++ ys) n) ≡ Some z
got_first h [] ys n z e = absurd (let g : None ≡ Some z = e in cc)
got_first h (x ∷ xs) ys zero z e = e
got_first h (x ∷ xs) ys (suc n) z e = got_first h xs ys n z e

pub past : {Y : Type 0} (xs : List Y) (n : ℕ) → slice_get xs n ≡ None → length xs ≤ n
past [] n e = omega arith
past (x ∷ xs) zero e = absurd (let g : Some x ≡ None = e in cc)
past (x ∷ xs) (suc n) e = let h = past xs n e in omega (arith, h)

got_second : {Y : Type 0} (xs ys : List Y) (n rest : ℕ) → slice_get xs n ≡ None → rest + length xs ≡ n → slice_get (xs ++ ys) n ≡ slice_get ys rest
got_second [] ys n rest e counted = ap (slice_get ys) (omega (arith, counted))
got_second (x ∷ xs) ys zero rest e counted = absurd (omega (arith, counted))
got_second (x ∷ xs) ys (suc n) rest e counted = got_second xs ys n rest e (omega (arith, counted))

-- the lists of some things, one after another
module _ {X Y : Type 0} (g : X → List Y) (xs : List X) (number : ℕ) where
  -- the item of a number is found among the rest, by what is left of the number
  abbrev pub IsLeftOf : ℕ → ℕ → Type 0
  IsLeftOf i left = slice_get (flat_map g xs) number ≡ slice_get (flat_map g (drop i xs)) left

  module _ (i left : ℕ) (so : IsLeftOf i left) where
    module _ (x d : X) (within : i < length xs) (is : x ≡ get_or xs i d) where
      next : slice_get (flat_map g xs) number ≡ slice_get (g x ++ flat_map g (drop (i + 1) xs)) left
      next = so ∙ ap (λ l. slice_get (flat_map g l) left) (drop_at xs i x d within is)

      pub in_this : {Z : Type 0} (h : Y → Z) (z : Z) → option_map h (slice_get (g x) left) ≡ Some z → option_map h (slice_get (flat_map g xs) number) ≡ Some z
      in_this h z e = ap (option_map h) next ∙ got_first h (g x) (flat_map g (drop (i + 1) xs)) left z e

      pub in_others : (rest : ℕ) → slice_get (g x) left ≡ None → rest + length (g x) ≡ left → IsLeftOf (i + 1) rest
      in_others rest e counted = next ∙ got_second (g x) (flat_map g (drop (i + 1) xs)) left rest e counted

    pub in_none : length xs ≤ i → slice_get (flat_map g xs) number ≡ None
    in_none over = so ∙ ap (λ l. slice_get (flat_map g l) left) (drop_all i xs over)

-- what is told of one of several things, by its number
pub told_so : (ps : List Placed) (x : Item) (them : List Asked) → flat_map (wanted_by ps) them ≡ words_of x → (n : ℕ) (r : Option PlacedWord)
    → MatchOption r (slice_get (flat_map (wanted_by ps) them) n ≡ None) (λ w. option_map told_word (slice_get (flat_map (wanted_by ps) them) n) ≡ Some (scoped_by ps w))
    → MatchOption r (told_at x n ≡ None) (λ w. told_at x n ≡ Some (scoped_by ps w))
told_so ps x them same n None none = ap (λ l. option_map told_word (slice_get l n)) (sym same) ∙ ap (option_map told_word) none
told_so ps x them same n (Some w) is = ap (λ l. option_map told_word (slice_get l n)) (sym same) ∙ is

module _ (f : RustWord → ScopedWord) (m : ℕ) where
  -- ---- words

  abbrev pub asked_in : rust.Term → List Wanted
  asked_in t = wanted_in (term_with f m t)

  abbrev pub all_asked_in : List rust.Term → List Wanted
  all_asked_in ts = all_wanted_in (terms_with f m ts)

  pub none_asked : all_asked_in [] ≡ []
  unfolding all_wanted_in all_replaced
  none_asked = refl

  pub more_asked : (t : rust.Term) (ts : List rust.Term) → all_asked_in (t ∷ ts) ≡ asked_in t ++ all_asked_in ts
  unfolding all_wanted_in all_replaced
  more_asked t ts = refl

  -- what one term asks for
  module _ (t : rust.Term) (old new : List Wanted) where
    pub leaf_asked : (w : LookedUp) → t ≡ rust.Leaf w → new ≡ old ++ AWord (f (word_in m w)) ∷ [] → new ≡ old ++ asked_in t
    unfolding wanted_in
    leaf_asked w is push = push ∙ sym (ap (λ u. old ++ wanted_in u) (scoped_leaf f [] m t w is))

    pub name_asked : (at : ℕ) (bytes : List ℕ) → t ≡ rust.Name at bytes → old ≡ old ++ asked_in t
    unfolding wanted_in
    name_asked at bytes is = sym (ap (λ u. old ++ wanted_in u) (scoped_name f [] m t at bytes is) ∙ append-nil old)

    module _ (at : ℕ) (op : Op) (parts : Vec rust.Term) (is : t ≡ rust.Form op at parts) (items : List rust.Term) (same : items ≡ parts.items) where
      pub class_asked : is_class_list op ≡ true → new ≡ old ++ words_of_class (terms_with f m items) → new ≡ old ++ asked_in t
      unfolding wanted_in
      class_asked of_class push =
          push ∙ ap (λ us. old ++ words_of_class (terms_with f m us)) same
          ∙ sym (ap (λ u. old ++ wanted_in u) (scoped_form f [] m t at op parts is)
          ∙ ap (λ b. old ++ (if b then words_of_class (terms_with f m parts.items) else all_asked_in parts.items)) of_class)

      pub form_asked : is_class_list op ≡ false → new ≡ old ++ all_asked_in items → new ≡ old ++ asked_in t
      unfolding wanted_in
      form_asked other push =
          push ∙ ap (λ us. old ++ all_asked_in us) same
          ∙ sym (ap (λ u. old ++ wanted_in u) (scoped_form f [] m t at op parts is)
          ∙ ap (λ b. old ++ (if b then words_of_class (terms_with f m parts.items) else all_asked_in parts.items)) other)

  -- ---- the words of terms

  abbrev pub words_at : rust.Term → List ScopedWord
  words_at t = words_in (term_with f m t)

  abbrev pub all_words_at : List rust.Term → List ScopedWord
  all_words_at ts = all_words_in (terms_with f m ts)

  module _ (t : rust.Term) (old new : List ScopedWord) where
    pub leaf_word : (w : LookedUp) → t ≡ rust.Leaf w → new ≡ old ++ f (word_in m w) ∷ [] → new ≡ old ++ words_at t
    unfolding words_in
    leaf_word w is push = push ∙ sym (ap (λ u. old ++ words_in u) (scoped_leaf f [] m t w is))

    pub name_word : (at : ℕ) (bytes : List ℕ) → t ≡ rust.Name at bytes → old ≡ old ++ words_at t
    unfolding words_in
    name_word at bytes is = sym (ap (λ u. old ++ words_in u) (scoped_name f [] m t at bytes is) ∙ append-nil old)

    pub form_words : (at : ℕ) (op : Op) (parts : Vec rust.Term) → t ≡ rust.Form op at parts → (items : List rust.Term) → items ≡ parts.items
        → new ≡ old ++ all_words_at items → new ≡ old ++ words_at t
    unfolding words_in
    form_words at op parts is items same push = push ∙ ap (λ us. old ++ all_words_at us) same ∙ sym (ap (λ u. old ++ words_in u) (scoped_form f [] m t at op parts is))

-- a class word, and the words behind it as its permissions
pub class_list_asked : {X : Type 0} (g : X → ScopedWord) (c : ScopedWord) (ws : List X) (all : List ScopedWord) → map g ws ≡ all
    → AWord c ∷ map (λ w. APermission c (g w)) ws ≡ AWord c ∷ map (APermission c) all
class_list_asked g c ws all e = ap (λ l. AWord c ∷ l) (sym (map-map (APermission c) g ws) ∙ ap (map (APermission c)) e)

-- what each gives, mapped
pub each_mapped : {X Y Z : Type 0} (h : Y → Z) (g : X → List Y) (xs : List X) → flat_map (λ x. map h (g x)) xs ≡ map h (flat_map g xs)
each_mapped h g [] = refl
each_mapped h g (x ∷ xs) = ap (λ l. map h (g x) ++ l) (each_mapped h g xs) ∙ sym (map-append h (g x) (flat_map g xs))

-- behind what was there, what each of the first gives
module _ {X Y : Type 0} (f : X → List Y) (xs : List X) (k : ℕ) where
  pub one_more : (x d : X) (before old new : List Y) → k < length xs → x ≡ get_or xs k d → old ≡ before ++ flat_map f (take k xs) → new ≡ old ++ f x → new ≡ before ++ flat_map f (take (k + 1) xs)
  one_more x d before old new within is so push =
      push ∙ ap (λ l. l ++ f x) so ∙ append_assoc before (flat_map f (take k xs)) (f x)
      ∙ ap (λ l. before ++ l) (one_flat f xs k x d (flat_map f (take k xs)) (flat_map f (take k xs) ++ f x) within is refl refl)

  pub no_more : (before new : List Y) → length xs ≤ k → new ≡ before ++ flat_map f (take k xs) → new ≡ before ++ flat_map f xs
  no_more before new over so = so ∙ ap (λ l. before ++ flat_map f l) (take_all k xs over)
