-- What is put in part by part: bare parts, each word as what it means.
use Rattle.std.specs.Prelude.{true, false, Option, Some, None, slice_get}
use Rattle.std.proofs.Common.{◌≡◌, ◌≤◌, ◌<◌, ◌+◌, ℕ, List, [], ◌∷◌, ◌++◌, length, get_or, drop, refl, sym, ◌∙◌, ap, append_assoc}
use Rattle.std.proofs.lemmas.List.{append-nil, drop_all}
use Rattle.cil_base.specs.Places.{drop_at}
use Rattle.cil_syntax.specs.declared.kind.Sign.{Sign}
use Rattle.cil_syntax.specs.declared.kind.Sign.TheVariants as signs
use Rattle.cil_syntax.specs.declared.term.Op.{Op}
use Rattle.cil_faults.specs.declared.spot.Spot.{Spot}
use Rattle.cil_syntax.specs.declared.term.Word.{Word}
use Rattle.cil_syntax.specs.Scopes.{ScopedWord}
use Rattle.cil_syntax.specs.Terms.{Term, Leaf, Name, Form, Terms, nil, cons}
use Rattle.cil_macros.specs.declared.listed.Listed.{Listed}
use Rattle.cil_macros.specs.declared.listed.Part.{Part}
use Rattle.cil_macros.specs.declared.listed.Part.TheVariants as kept_parts
use Rattle.cil_macros.specs.declared.meant.Meant.{Meant}
use Rattle.cil_macros.specs.declared.placed_word.PlacedWord.{PlacedWord}
use Rattle.cil_macros.specs.declared.scene.Scene.{Scene}
use Rattle.cil_macros.specs.Listed as lists
use Rattle.cil_macros.specs.Listed.{IsWholeList, all_parts_of, closes, list_there, opens, part_there, parts_of, parts_there, plain_first, scoped_by, terms_in, text as part_text, word as part_word}
use Rattle.cil_macros.specs.Meant.{meant_in, meant_term}
use Rattle.cil_macros.specs.Placed.{Placed, all_filled, filled, meaning, of_plain_class, put, put_list}
use Rattle.cil_macros.specs.Puts.{AsksInside, IsJoinedBy, Placing, PutsPart, PutsParts, SaysList, bare, bare_parts, inside, is_mapped, put_part, put_parts, text_parts}
use Rattle.cil_macros.specs.Scene.{placed_of_scene}
use Rattle.cil_macros.specs.Walks.{written_in}
use Rattle.cil_macros.proofs.AskLemmas.{filled_form, parts_none}
use Rattle.cil_macros.proofs.PartLemmas.{behind_there, between, says_terms, whole_so}

-- a list without parts
pub no_parts : (ps : List Placed) (l : Listed) → l.parts.items ≡ [] → (f : Word → Term ScopedWord) → parts_there ps l.parts.items ≡ all_parts_of (all_filled f nil)
no_parts ps l none f = ap (parts_there ps) none ∙ sym (parts_none f)

-- ---- bare parts, put in

module _ (f : Word → Term ScopedWord) where
  put_behind : (xs ys : List lists.Part) → put_parts f (xs ++ ys) ≡ put_parts f xs ++ put_parts f ys
  unfolding put_parts
  put_behind [] ys = refl
  put_behind (x ∷ xs) ys = ap (λ zs. put_part f x ++ zs) (put_behind xs ys) ∙ sym (append_assoc (put_part f x) (put_parts f xs) (put_parts f ys))

  mutual
    unfolding put_parts filled parts_of

    -- bare parts of a term, put in, are the parts of what it is filled with
    pub term_put : (t : Term Word) → put_parts f (parts_of (filled bare t)) ≡ parts_of (filled f t)
    term_put (Leaf w) = append-nil (parts_of (f w))
    term_put (Name at bytes) = refl
    term_put (Form at op ts) =
        ap (λ xs. opens at op ∷ xs)
        (put_behind (all_parts_of (all_filled bare ts)) (closes ∷ []) ∙ ap (λ xs. xs ++ closes ∷ []) (terms_put ts))

    pub terms_put : (ts : Terms Word) → put_parts f (all_parts_of (all_filled bare ts)) ≡ all_parts_of (all_filled f ts)
    terms_put nil = refl
    terms_put (cons t ts) =
        put_behind (parts_of (filled bare t)) (all_parts_of (all_filled bare ts))
        ∙ ap (λ xs. xs ++ put_parts f (all_parts_of (all_filled bare ts))) (term_put t)
        ∙ ap (λ xs. parts_of (filled f t) ++ xs) (terms_put ts)

-- the list that was made of the parts
pub list_says : (s : Scene) (at : ℕ) (o : Option (Term Word)) (bt : Spot) (op : Op) → IsJoinedBy bt o op → (none asked old : List Part) → none ≡ [] → AsksInside o none asked → old ≡ []
    → (l : Listed) → l.at ≡ bt → l.op ≡ op → PutsParts meaning s at asked old l.parts.items → SaysList s at o l
list_says s at o bt op joined none asked old first asks empty l at_so op_so puts = λ p v here e.
    let f = meaning (written_in s.spaces.now) p in
    let ps = placed_of_scene s in
    let read = asks v e ∙ ap (λ xs. bare_parts xs ++ all_parts_of (all_filled bare (inside v))) first in
    let parts = puts p here ∙ ap (λ xs. parts_there ps xs ++ put_parts f (bare_parts asked)) empty ∙ ap (put_parts f) read ∙ terms_put f (inside v) in (
      (λ i. Form (at_so i) (op_so i) (says_terms ps l (all_filled f (inside v)) parts i)) ∙ sym (filled_form f bt op (inside v)) ∙ ap (filled f) (sym (joined v e)),
      whole_so ps l (all_filled f (inside v)) parts,
    )

-- ---- what a word means, as it is kept

module _ (ps : List Placed) (sign : Sign) (m : Meant) where
  -- a string
  pub text_put : m.scope ≡ None → (old new : List Part) → new ≡ old ++ text_parts m.at m.bytes → parts_there ps new ≡ parts_there ps old ++ parts_of (meant_term ps sign m)
  unfolding parts_of
  text_put e old new f =
      behind_there ps old (text_parts m.at m.bytes) new f ∙ ap (λ o. parts_there ps old ++ parts_of (meant_in ps sign m.at m.bytes o)) (sym e)

  -- a word
  pub word_put : (k : ℕ) → m.scope ≡ Some k → (w : PlacedWord) → w ≡ record { word = record { at = m.at; bytes = m.bytes; sign = sign }; scope = Some k }
      → (old new : List Part) → new ≡ old ++ kept_parts.Word w ∷ [] → parts_there ps new ≡ parts_there ps old ++ parts_of (meant_term ps sign m)
  unfolding parts_of
  word_put k e w is old new f =
      behind_there ps old (kept_parts.Word w ∷ []) new f
      ∙ ap (λ (x : PlacedWord). parts_there ps old ++ part_word (scoped_by ps x) ∷ []) is
      ∙ ap (λ o. parts_there ps old ++ parts_of (meant_in ps sign m.at m.bytes o)) (sym e)

kept_list : (sign : Sign) → is_mapped sign ≡ false → (at : Spot) (op : Op) (ts : Terms ScopedWord) → Form at op ts ≡ put_list sign at op ts
kept_list signs.MappedPermissions e at op ts = cc
kept_list sign e at op ts = refl

-- a list stays as it is where no permission of a class map stands
pub list_meant : (ps : List Placed) (sign : Sign) → is_mapped sign ≡ false → (l : Listed) → list_there ps l ≡ put sign (list_there ps l)
list_meant ps sign e l = kept_list sign e l.at l.op _

mapped_sign : (sign : Sign) → is_mapped sign ≡ true → sign ≡ signs.MappedPermissions
mapped_sign signs.MappedPermissions e = refl
mapped_sign sign e = cc

plain_class_parts : (ts : Terms ScopedWord) → all_parts_of (of_plain_class ts) ≡ plain_first (all_parts_of ts)
unfolding parts_of
plain_class_parts nil = refl
plain_class_parts (cons (Leaf w) ts) = refl
plain_class_parts (cons (Name at bytes) ts) = refl
plain_class_parts (cons (Form at op parts) ts) = refl

module _ (ps : List Placed) where
  pub mapped_between : (l : Listed) (old first more new : List Part) → first ≡ old ++ kept_parts.Opens l.at l.op ∷ []
      → parts_there ps more ≡ parts_there ps first ++ plain_first (parts_there ps l.parts.items) → new ≡ more ++ kept_parts.Closes ∷ [] → IsWholeList ps l
      → parts_there ps new ≡ parts_there ps old ++ parts_of (put signs.MappedPermissions (list_there ps l))
  mapped_between l old first more new e f g whole =
      between ps l.at l.op old first more new (of_plain_class (terms_in (parts_there ps l.parts.items))) e
      (f ∙ ap (λ xs. parts_there ps first ++ xs) (ap plain_first whole ∙ sym (plain_class_parts (terms_in (parts_there ps l.parts.items))))) g

  -- a list where a word of a sign stands
  module _ (sign : Sign) (l : Listed) (old new : List Part) where
    pub list_for : is_mapped sign ≡ false → parts_there ps new ≡ parts_there ps old ++ parts_of (list_there ps l) → parts_there ps new ≡ parts_there ps old ++ parts_of (put sign (list_there ps l))
    list_for other e = e ∙ ap (λ x. parts_there ps old ++ parts_of x) (list_meant ps sign other l)

    pub mapped_for : is_mapped sign ≡ true → parts_there ps new ≡ parts_there ps old ++ parts_of (put signs.MappedPermissions (list_there ps l))
        → parts_there ps new ≡ parts_there ps old ++ parts_of (put sign (list_there ps l))
    mapped_for mapped e = e ∙ ap (λ x. parts_there ps old ++ parts_of (put x (list_there ps l))) (sym (mapped_sign sign mapped))

-- ---- one part after another

-- a sign that a list begins or ends, and a string, stay as they are
module _ (f : Placing) (s : Scene) (at : ℕ) (x : Part) (old new : List Part) where
  pub puts_word_part : (w : PlacedWord) → x ≡ kept_parts.Word w
      → ((p : Placed) → slice_get (placed_of_scene s) at ≡ Some p
      → parts_there (placed_of_scene s) new ≡ parts_there (placed_of_scene s) old ++ parts_of (f (written_in s.spaces.now) p w.word)) → PutsPart f s at x old new
  puts_word_part w is puts = λ p here.
      puts p here ∙ ap (λ y. parts_there (placed_of_scene s) old ++ put_part (f (written_in s.spaces.now) p) (part_there [] y)) (sym is)

  pub puts_as_is : (y : Part) → y ≡ x → new ≡ old ++ y ∷ [] → ((ps : List Placed) (g : Word → Term ScopedWord) → part_there ps x ∷ [] ≡ put_part g (part_there [] x)) → PutsPart f s at x old new
  puts_as_is y same e stays = λ p here.
      behind_there (placed_of_scene s) old (y ∷ []) new e
      ∙ ap (λ z. parts_there (placed_of_scene s) old ++ part_there (placed_of_scene s) z ∷ []) same
      ∙ ap (λ xs. parts_there (placed_of_scene s) old ++ xs) (stays (placed_of_scene s) (f (written_in s.spaces.now) p))

  stays_by : (y : Part) → x ≡ y → ((ps : List Placed) (g : Word → Term ScopedWord) → part_there ps y ∷ [] ≡ put_part g (part_there [] y))
      → (ps : List Placed) (g : Word → Term ScopedWord) → part_there ps x ∷ [] ≡ put_part g (part_there [] x)
  stays_by y is same ps g = ap (λ z. part_there ps z ∷ []) is ∙ same ps g ∙ ap (λ z. put_part g (part_there [] z)) (sym is)

  pub text_stays : (bt : Spot) (bytes : List ℕ) → x ≡ kept_parts.Text bt bytes → (y : Part) → y ≡ x → new ≡ old ++ y ∷ [] → PutsPart f s at x old new
  text_stays bt bytes is y same e = puts_as_is y same e (stays_by (kept_parts.Text bt bytes) is (λ ps g. refl))

  pub begin_stays : (bt : Spot) (op : Op) → x ≡ kept_parts.Opens bt op → (y : Part) → y ≡ x → new ≡ old ++ y ∷ [] → PutsPart f s at x old new
  begin_stays bt op is y same e = puts_as_is y same e (stays_by (kept_parts.Opens bt op) is (λ ps g. refl))

  pub end_stays : x ≡ kept_parts.Closes → (y : Part) → y ≡ x → new ≡ old ++ y ∷ [] → PutsPart f s at x old new
  end_stays is y same e = puts_as_is y same e (stays_by kept_parts.Closes is (λ ps g. refl))

module _ (f : Placing) (s : Scene) (at : ℕ) (asked : List Part) (old : List Part) where
  abbrev fill : Placed → Word → Term ScopedWord
  fill p = f (written_in s.spaces.now) p

  abbrev ps : List Placed
  ps = placed_of_scene s

  -- so far: with those of the rest they are all
  abbrev pub AreIn : ℕ → List Part → Type 0
  AreIn i now = (p : Placed) → slice_get ps at ≡ Some p
      → parts_there ps now ++ put_parts (fill p) (bare_parts (drop i asked)) ≡ parts_there ps old ++ put_parts (fill p) (bare_parts asked)

  pub none_in : AreIn 0 old
  none_in = λ p here. refl

  pub one_in : (i : ℕ) (now new : List Part) (x : Part) → i < length asked → x ≡ get_or asked i x → PutsPart f s at x now new → AreIn i now → AreIn (i + 1) new
  unfolding put_parts
  one_in i now new x within is puts so = λ p here.
      let rest = put_parts (fill p) (bare_parts (drop (i + 1) asked)) in
      ap (λ xs. xs ++ rest) (puts p here)
      ∙ append_assoc (parts_there ps now) (put_part (fill p) (part_there [] x)) rest
      ∙ ap (λ xs. parts_there ps now ++ put_parts (fill p) (bare_parts xs)) (sym (drop_at asked i x x within is))
      ∙ so p here

  pub all_in : (i : ℕ) (now : List Part) → length asked ≤ i → AreIn i now → PutsParts f s at asked old now
  unfolding put_parts
  all_in i now over so = λ p here.
      sym (append-nil (parts_there ps now))
      ∙ ap (λ xs. parts_there ps now ++ put_parts (fill p) (bare_parts xs)) (sym (drop_all i asked over))
      ∙ so p here
