-- What the parts of a statement ask for is what its terms ask for.
use Rattle.std.specs.Prelude.{MatchOption, None, Option, Some, if◌then◌else◌}
use Rattle.std.specs.Global.{Vec}
use Rattle.std.specs.List.{flat_map, take-map}
use Rattle.std.proofs.Common.{◌≡◌, ℕ, zero, suc, ◌+◌, ◌<◌, ◌≤◌, Bool, true, false, List, [], ◌∷◌, ◌++◌, get_or, length, map, take, drop, refl, sym, ◌∙◌, ap, arith, append-nil, append_assoc}
use Rattle.std.proofs.Math.Seq.{drop-append-add, drop-append_seam, take-append-add, take-append_seam}
use Rattle.std.proofs.lemmas.List.{drop_all, drop-map, length-append}
use Rattle.cil_base.specs.Places.{drop_at}
use Rattle.cil_syntax.specs.declared.term.Op.{Op}
use Rattle.cil_syntax.specs.Forms.{is_class_list}
use Rattle.cil_faults.specs.declared.spot.Spot.{Spot}
use Rattle.cil_syntax.specs.Scopes.{ScopedWord}
use Rattle.cil_syntax.specs.Terms.{Term, Leaf, Name, Form, Terms, nil, cons}
use Rattle.cil_macros.specs.declared.listed.Part as kept_part
use Rattle.cil_macros.specs.declared.listed.Part.TheVariants as kept_parts
use Rattle.cil_macros.specs.declared.placed_word.PlacedWord.{PlacedWord}
use Rattle.cil_macros.specs.Items.{scoped_by}
use Rattle.cil_macros.specs.Listed.{Part, all_parts_of, closes, opens, part_there, parts_of, parts_there, text, word as part_word, words_in_parts}
use Rattle.cil_macros.specs.Placed.{Placed}
use Rattle.cil_macros.proofs.PartLemmas.{terms_words}
use Rattle.cil_names.specs.declared.asked.Asked.{Asked}
use Rattle.cil_names.specs.declared.asked.Asked.TheVariants as asked
use Rattle.cil_names.specs.Asked.{wanted_by}
use Rattle.cil_names.specs.AskedParts.{class_asked, mapping_asked, parts_asked, parts_inside, term_parts, two_parts}
use Rattle.cil_names.specs.Resolves.{Permission as APermission, Wanted, Word as AWord, all_wanted_in, wanted_in, words_of_class, words_of_mapping}
use Rattle.cil_names.proofs.AskedLemmas.{class_list_asked, one_asked, one_pushed}

-- ---- how many parts are in a list

mutual
  unfolding parts_of parts_inside

  term_counted : (t : Term ScopedWord) (depth : ℕ) (xs : List Part) → parts_inside depth (parts_of t ++ xs) ≡ length (parts_of t) + parts_inside depth xs
  term_counted (Leaf w) depth xs = let e : suc (parts_inside depth xs) ≡ 1 + parts_inside depth xs = omega arith in e
  term_counted (Name at bytes) depth xs = let e : suc (parts_inside depth xs) ≡ 1 + parts_inside depth xs = omega arith in e
  term_counted (Form at op ts) depth xs =
      let behind : parts_inside (suc depth) ((all_parts_of ts ++ closes ∷ []) ++ xs) ≡ length (all_parts_of ts) + suc (parts_inside depth xs) =
      ap (parts_inside (suc depth)) (append_assoc (all_parts_of ts) (closes ∷ []) xs) ∙ terms_counted ts (suc depth) (closes ∷ xs) in
      let len : length (all_parts_of ts ++ closes ∷ []) ≡ length (all_parts_of ts) + 1 = length-append (all_parts_of ts) (closes ∷ []) in
      let e : suc (parts_inside (suc depth) ((all_parts_of ts ++ closes ∷ []) ++ xs)) ≡ suc (length (all_parts_of ts ++ closes ∷ [])) + parts_inside depth xs = omega (arith, behind, len) in e

  terms_counted : (ts : Terms ScopedWord) (depth : ℕ) (xs : List Part) → parts_inside depth (all_parts_of ts ++ xs) ≡ length (all_parts_of ts) + parts_inside depth xs
  terms_counted nil depth xs = let e : parts_inside depth xs ≡ 0 + parts_inside depth xs = omega arith in e
  terms_counted (cons t ts) depth xs =
      let here : parts_inside depth ((parts_of t ++ all_parts_of ts) ++ xs) ≡ length (parts_of t) + parts_inside depth (all_parts_of ts ++ xs) =
      ap (parts_inside depth) (append_assoc (parts_of t) (all_parts_of ts) xs) ∙ term_counted t depth (all_parts_of ts ++ xs) in
      let behind : parts_inside depth (all_parts_of ts ++ xs) ≡ length (all_parts_of ts) + parts_inside depth xs = terms_counted ts depth xs in
      let len : length (parts_of t ++ all_parts_of ts) ≡ length (parts_of t) + length (all_parts_of ts) = length-append (parts_of t) (all_parts_of ts) in
      let e : parts_inside depth ((parts_of t ++ all_parts_of ts) ++ xs) ≡ length (parts_of t ++ all_parts_of ts) + parts_inside depth xs = omega (arith, here, behind, len) in e

-- the list ends behind its terms
list_counted : (ts : Terms ScopedWord) (xs : List Part) → parts_inside 0 (all_parts_of ts ++ closes ∷ xs) ≡ length (all_parts_of ts) + 1
unfolding parts_inside
list_counted ts xs = terms_counted ts 0 (closes ∷ xs)

-- ---- words behind a class word

words_closed : (xs : List Part) → words_in_parts (xs ++ closes ∷ []) ≡ words_in_parts xs
unfolding words_in_parts
words_closed [] = refl
words_closed (part_word w ∷ xs) = ap (λ ws. w ∷ ws) (words_closed xs)
words_closed (text at bytes ∷ xs) = words_closed xs
words_closed (opens at op ∷ xs) = words_closed xs
words_closed (closes ∷ xs) = words_closed xs

-- what is read as a class list
pub class_of_terms : (ts : Terms ScopedWord) → class_asked (all_parts_of ts) ≡ words_of_class ts
unfolding parts_of
class_of_terms nil = refl
class_of_terms (cons (Leaf w) rest) = ap (λ ws. AWord w ∷ map (APermission w) ws) (terms_words rest)
class_of_terms (cons (Name at bytes) rest) = refl
class_of_terms (cons (Form at op parts) rest) = refl

class_closed : (xs : List Part) → class_asked (xs ++ closes ∷ []) ≡ class_asked xs
class_closed [] = refl
class_closed (part_word w ∷ xs) = ap (λ ws. AWord w ∷ map (APermission w) ws) (words_closed xs)
class_closed (text at bytes ∷ xs) = refl
class_closed (opens at op ∷ xs) = refl
class_closed (closes ∷ xs) = refl

-- ---- terms

-- the first parts are passed over
pub passed_over : (passed : ℕ) (xs : List Part) → parts_asked passed xs ≡ parts_asked 0 (drop passed xs)
unfolding parts_asked
passed_over zero xs = refl
passed_over (suc passed) [] = refl
passed_over (suc passed) (x ∷ xs) = passed_over passed xs

-- a class list, and what is behind it
list_asked : (ts : Terms ScopedWord) (xs ys : List Part) → ys ≡ all_parts_of ts ++ closes ∷ xs
    → class_asked (take (parts_inside 0 ys) ys) ++ parts_asked (parts_inside 0 ys) ys ≡ words_of_class ts ++ parts_asked 0 xs
list_asked ts xs ys same =
    let ps = all_parts_of ts in
    let counted = ap (parts_inside 0) same ∙ list_counted ts xs in
    let first = ap (take (parts_inside 0 ys)) same ∙ ap (λ n. take n (ps ++ closes ∷ xs)) counted ∙ take-append-add ps (closes ∷ xs) 1 in
    let behind = ap (drop (parts_inside 0 ys)) same ∙ ap (λ n. drop n (ps ++ closes ∷ xs)) counted ∙ drop-append-add ps (closes ∷ xs) 1 in
    let class_ = ap class_asked first ∙ class_closed ps ∙ class_of_terms ts in
    let rest = passed_over (parts_inside 0 ys) ys ∙ ap (parts_asked 0) behind in
    λ i. class_ i ++ rest i

form_asked : (b : Bool) (class_ all rest listed flat : List Wanted) → listed ≡ class_ ++ rest → flat ≡ all ++ rest
    → (if b then listed else flat) ≡ (if b then class_ else all) ++ rest
form_asked true class_ all rest listed flat of_class other = of_class
form_asked false class_ all rest listed flat of_class other = other

mutual
  unfolding parts_of parts_asked wanted_in

  term_asked : (t : Term ScopedWord) (xs : List Part) → parts_asked 0 (parts_of t ++ xs) ≡ wanted_in t ++ parts_asked 0 xs
  term_asked (Leaf w) xs = refl
  term_asked (Name at bytes) xs = refl
  term_asked (Form at op ts) xs =
      let ys = (all_parts_of ts ++ closes ∷ []) ++ xs in
      form_asked (is_class_list op) (words_of_class ts) (all_wanted_in ts) (parts_asked 0 xs) _ _ (list_asked ts xs ys (append_assoc (all_parts_of ts) (closes ∷ []) xs))
      (ap (parts_asked 0) (append_assoc (all_parts_of ts) (closes ∷ []) xs) ∙ terms_asked_on ts (closes ∷ xs))

  terms_asked_on : (ts : Terms ScopedWord) (xs : List Part) → parts_asked 0 (all_parts_of ts ++ xs) ≡ all_wanted_in ts ++ parts_asked 0 xs
  terms_asked_on nil xs = refl
  terms_asked_on (cons t ts) xs =
      ap (parts_asked 0) (append_assoc (parts_of t) (all_parts_of ts) xs)
      ∙ term_asked t (all_parts_of ts ++ xs)
      ∙ ap (λ ws. wanted_in t ++ ws) (terms_asked_on ts xs)
      ∙ sym (append_assoc (wanted_in t) (all_wanted_in ts) (parts_asked 0 xs))

-- what terms ask for
pub terms_asked : (ts : Terms ScopedWord) → parts_asked 0 (all_parts_of ts) ≡ all_wanted_in ts
unfolding parts_asked
terms_asked ts = ap (parts_asked 0) (sym (append-nil (all_parts_of ts))) ∙ terms_asked_on ts [] ∙ append-nil (all_wanted_in ts)

-- ---- classmappings

first_counted : (t : Term ScopedWord) (xs : List Part) → term_parts (parts_of t ++ xs) ≡ length (parts_of t)
unfolding parts_of
first_counted (Leaf w) xs = refl
first_counted (Name at bytes) xs = refl
first_counted (Form at op ts) xs =
    let behind : parts_inside 0 ((all_parts_of ts ++ closes ∷ []) ++ xs) ≡ length (all_parts_of ts) + 1 =
    ap (parts_inside 0) (append_assoc (all_parts_of ts) (closes ∷ []) xs) ∙ list_counted ts xs in
    let len : length (all_parts_of ts ++ closes ∷ []) ≡ length (all_parts_of ts) + 1 = length-append (all_parts_of ts) (closes ∷ []) in
    let e : suc (parts_inside 0 ((all_parts_of ts ++ closes ∷ []) ++ xs)) ≡ suc (length (all_parts_of ts ++ closes ∷ [])) = omega (arith, behind, len) in e

-- and those of another behind it
second_counted : (m : Term ScopedWord) (xs : List Part) (k : ℕ) → term_parts xs ≡ k → two_parts (parts_of m ++ xs) ≡ length (parts_of m) + k
second_counted m xs k e =
    let first = first_counted m xs in
    let second = ap (λ n. term_parts (drop n (parts_of m ++ xs))) first ∙ ap term_parts (drop-append_seam (parts_of m) xs) ∙ e in
    λ i. first i + second i

two_counted : (m r : Term ScopedWord) (xs : List Part) → two_parts (parts_of m ++ (parts_of r ++ xs)) ≡ length (parts_of m ++ parts_of r)
two_counted m r xs = second_counted m (parts_of r ++ xs) (length (parts_of r)) (first_counted r xs) ∙ sym (length-append (parts_of m) (parts_of r))

sole_counted : (m : Term ScopedWord) → two_parts (parts_of m ++ []) ≡ length (parts_of m)
sole_counted m = second_counted m [] 0 refl ∙ omega arith

-- the parts of the first two terms, and those behind them
mapping_parted : (xs front behind : List Part) → xs ≡ front ++ behind → two_parts xs ≡ length front → mapping_asked xs ≡ class_asked front ++ parts_asked 0 behind
mapping_parted xs front behind same two =
    let first = ap (λ n. take n xs) two ∙ ap (take (length front)) same ∙ take-append_seam front behind in
    let rest = ap (λ n. drop n xs) two ∙ ap (drop (length front)) same ∙ drop-append_seam front behind in
    λ i. class_asked (first i) ++ parts_asked 0 (rest i)

-- what a classmapping asks for
pub mapping_terms : (ts : Terms ScopedWord) → mapping_asked (all_parts_of ts) ≡ words_of_mapping ts
unfolding parts_of parts_asked
mapping_terms nil = refl
mapping_terms (cons m nil) =
    mapping_parted (parts_of m ++ []) (parts_of m) [] refl (sole_counted m)
    ∙ append-nil (class_asked (parts_of m))
    ∙ ap class_asked (sym (append-nil (parts_of m)))
    ∙ class_of_terms (cons m nil)
mapping_terms (cons m (cons r rest)) =
    mapping_parted (parts_of m ++ (parts_of r ++ all_parts_of rest)) (parts_of m ++ parts_of r) (all_parts_of rest)
    (sym (append_assoc (parts_of m) (parts_of r) (all_parts_of rest))) (two_counted m r (all_parts_of rest))
    ∙ ap (λ ws. ws ++ parts_asked 0 (all_parts_of rest))
    (ap (λ xs. class_asked (parts_of m ++ xs)) (sym (append-nil (parts_of r))) ∙ class_of_terms (cons m (cons r nil)))
    ∙ ap (λ ws. words_of_class (cons m (cons r nil)) ++ ws) (terms_asked rest)

-- ---- as they are kept

module _ (ps : List Placed) where
  -- how many parts are in a list, by one part more
  module _ (part : kept_part.Part) (depth : ℕ) (xs : List Part) where
    pub word_inside : (w : PlacedWord) → part ≡ kept_parts.Word w → parts_inside depth (part_there ps part ∷ xs) ≡ suc (parts_inside depth xs)
    unfolding parts_inside
    word_inside w is = ap (λ p. parts_inside depth (part_there ps p ∷ xs)) is

    pub text_inside : (at : Spot) (bytes : List ℕ) → part ≡ kept_parts.Text at bytes → parts_inside depth (part_there ps part ∷ xs) ≡ suc (parts_inside depth xs)
    unfolding parts_inside
    text_inside at bytes is = ap (λ p. parts_inside depth (part_there ps p ∷ xs)) is

    pub opens_inside : (at : Spot) (op : Op) → part ≡ kept_parts.Opens at op → parts_inside depth (part_there ps part ∷ xs) ≡ suc (parts_inside (depth + 1) xs)
    unfolding parts_inside
    opens_inside at op is =
        let next : suc depth ≡ depth + 1 = omega arith in ap (λ p. parts_inside depth (part_there ps p ∷ xs)) is ∙ ap (λ d. suc (parts_inside d xs)) next

    pub closes_inside : part ≡ kept_parts.Closes → (o : Option ℕ) → MatchOption o (depth ≡ 0) (λ before. depth ≡ suc before)
        → MatchOption o (parts_inside depth (part_there ps part ∷ xs) ≡ 1) (λ before. parts_inside depth (part_there ps part ∷ xs) ≡ suc (parts_inside before xs))
    unfolding parts_inside
    closes_inside is None e = ap (λ p. parts_inside depth (part_there ps p ∷ xs)) is ∙ ap (λ d. parts_inside d (closes ∷ xs)) e
    closes_inside is (Some before) e = ap (λ p. parts_inside depth (part_there ps p ∷ xs)) is ∙ ap (λ d. parts_inside d (closes ∷ xs)) e

  -- a loop over the parts
  module _ (parts : List kept_part.Part) (at depth : ℕ) where
    abbrev pub IsCounted : Type 0
    IsCounted = parts_inside 0 (parts_there ps parts) ≡ at + parts_inside depth (parts_there ps (drop at parts))

    module _ (so : IsCounted) where
      module _ (x d : kept_part.Part) (within : at < length parts) (is : x ≡ get_or parts at d) where
        here : parts_inside 0 (parts_there ps parts) ≡ at + parts_inside depth (part_there ps x ∷ parts_there ps (drop (at + 1) parts))
        here = so ∙ ap (λ xs. at + parts_inside depth (parts_there ps xs)) (drop_at parts at x d within is)

        pub counted_on : (next : ℕ) → parts_inside depth (part_there ps x ∷ parts_there ps (drop (at + 1) parts)) ≡ suc (parts_inside next (parts_there ps (drop (at + 1) parts)))
            → parts_inside 0 (parts_there ps parts) ≡ (at + 1) + parts_inside next (parts_there ps (drop (at + 1) parts))
        counted_on next one = let h = here in omega (arith, h, one)

        pub counted_end : parts_inside depth (part_there ps x ∷ parts_there ps (drop (at + 1) parts)) ≡ 1 → at + 1 ≡ parts_inside 0 (parts_there ps parts)
        counted_end one = let h = here in omega (arith, h, one)

      pub counted_all : length parts ≤ at → at ≤ length parts → length parts ≡ parts_inside 0 (parts_there ps parts)
      unfolding parts_inside
      counted_all over within =
          let h : parts_inside 0 (parts_there ps parts) ≡ at + 0 = so ∙ ap (λ xs. at + parts_inside depth (parts_there ps xs)) (drop_all at parts over) in omega (arith, h, over, within)

  -- ---- words

  no_part_words : words_in_parts [] ≡ []
  unfolding words_in_parts
  no_part_words = refl

  pub one_part : (x : Part) (xs : List Part) → words_in_parts (x ∷ xs) ≡ words_in_parts (x ∷ []) ++ words_in_parts xs
  unfolding words_in_parts
  one_part (part_word w) xs = refl
  one_part (text at bytes) xs = refl
  one_part (opens at op) xs = refl
  one_part closes xs = refl

  module _ (part : kept_part.Part) (old new : List PlacedWord) where
    pub word_pushed : (w copied : PlacedWord) → part ≡ kept_parts.Word w → copied ≡ w → new ≡ old ++ copied ∷ []
        → map (scoped_by ps) new ≡ map (scoped_by ps) old ++ words_in_parts (parts_there ps (part ∷ []))
    unfolding words_in_parts
    word_pushed w copied is same push =
        one_pushed (scoped_by ps) old new copied push
        ∙ ap (λ v. map (scoped_by ps) old ++ scoped_by ps v ∷ []) same
        ∙ ap (λ p. map (scoped_by ps) old ++ words_in_parts (parts_there ps (p ∷ []))) (sym is)

    pub none_pushed : words_in_parts (parts_there ps (part ∷ [])) ≡ [] → map (scoped_by ps) old ≡ map (scoped_by ps) old ++ words_in_parts (parts_there ps (part ∷ []))
    none_pushed none = sym (ap (λ ws. map (scoped_by ps) old ++ ws) none ∙ append-nil (map (scoped_by ps) old))

    pub text_none : (at : Spot) (bytes : List ℕ) → part ≡ kept_parts.Text at bytes → words_in_parts (parts_there ps (part ∷ [])) ≡ []
    unfolding words_in_parts
    text_none at bytes is = ap (λ p. words_in_parts (parts_there ps (p ∷ []))) is

    pub opens_none : (at : Spot) (op : Op) → part ≡ kept_parts.Opens at op → words_in_parts (parts_there ps (part ∷ [])) ≡ []
    unfolding words_in_parts
    opens_none at op is = ap (λ p. words_in_parts (parts_there ps (p ∷ []))) is

    pub closes_none : part ≡ kept_parts.Closes → words_in_parts (parts_there ps (part ∷ [])) ≡ []
    unfolding words_in_parts
    closes_none is = ap (λ p. words_in_parts (parts_there ps (p ∷ []))) is

  -- a loop over the parts: what is there, and then the words of the rest
  module _ (parts : List kept_part.Part) (at : ℕ) where
    abbrev pub words_left : List PlacedWord → List ScopedWord
    words_left words = map (scoped_by ps) words ++ words_in_parts (parts_there ps (drop at parts))

    pub words_on : (x d : kept_part.Part) (old new : List PlacedWord) (all : List ScopedWord) → at < length parts → x ≡ get_or parts at d → words_left old ≡ all
        → map (scoped_by ps) new ≡ map (scoped_by ps) old ++ words_in_parts (parts_there ps (x ∷ []))
        → map (scoped_by ps) new ++ words_in_parts (parts_there ps (drop (at + 1) parts)) ≡ all
    words_on x d old new all within is so push =
        ap (λ ws. ws ++ words_in_parts (parts_there ps (drop (at + 1) parts))) push
        ∙ append_assoc (map (scoped_by ps) old) (words_in_parts (parts_there ps (x ∷ []))) (words_in_parts (parts_there ps (drop (at + 1) parts)))
        ∙ ap (λ ws. map (scoped_by ps) old ++ ws) (sym (one_part (part_there ps x) (parts_there ps (drop (at + 1) parts))))
        ∙ ap (λ xs. map (scoped_by ps) old ++ words_in_parts (parts_there ps xs)) (sym (drop_at parts at x d within is))
        ∙ so

    pub words_all : (new : List PlacedWord) (all : List ScopedWord) → length parts ≤ at → words_left new ≡ all → map (scoped_by ps) new ≡ all
    words_all new all over so =
        sym (ap (λ xs. map (scoped_by ps) new ++ words_in_parts (parts_there ps xs)) (drop_all at parts over) ∙ ap (λ ws. map (scoped_by ps) new ++ ws) no_part_words ∙ append-nil (map (scoped_by ps) new))
        ∙ so

  -- ---- what is asked for

  abbrev asked_there : List Asked → List Wanted
  asked_there them = flat_map (wanted_by ps) them

  -- a class word, and the words behind it as its permissions
  pub class_pushed : (parts behind : List kept_part.Part) (w copied : PlacedWord) (permissions : Vec PlacedWord) (old new : List Asked) → parts ≡ kept_parts.Word w ∷ behind
      → copied ≡ w → map (scoped_by ps) permissions.items ≡ words_in_parts (parts_there ps behind) → new ≡ old ++ asked.ClassList copied permissions ∷ []
      → asked_there new ≡ asked_there old ++ class_asked (parts_there ps parts)
  class_pushed parts behind w copied permissions old new is same words push =
      let all = words_in_parts (parts_there ps behind) in
      one_asked (wanted_by ps) old new (asked.ClassList copied permissions) push
      ∙ ap (λ l. asked_there old ++ l) (class_list_asked (scoped_by ps) (scoped_by ps copied) permissions.items all words)
      ∙ ap (λ v. asked_there old ++ AWord (scoped_by ps v) ∷ map (APermission (scoped_by ps v)) all) same
      ∙ ap (λ xs. asked_there old ++ class_asked (parts_there ps xs)) (sym is)

  pub no_class : (parts : List kept_part.Part) (old : List Asked) → class_asked (parts_there ps parts) ≡ [] → asked_there old ≡ asked_there old ++ class_asked (parts_there ps parts)
  no_class parts old none = sym (ap (λ l. asked_there old ++ l) none ∙ append-nil (asked_there old))

  -- what begins with no word is no class list
  pub none_first : (parts : List kept_part.Part) → parts ≡ [] → class_asked (parts_there ps parts) ≡ []
  none_first parts is = ap (λ xs. class_asked (parts_there ps xs)) is

  module _ (parts behind : List kept_part.Part) (first : kept_part.Part) (front : parts ≡ first ∷ behind) where
    pub text_first : (at : Spot) (bytes : List ℕ) → first ≡ kept_parts.Text at bytes → class_asked (parts_there ps parts) ≡ []
    text_first at bytes is = ap (λ xs. class_asked (parts_there ps xs)) front ∙ ap (λ p. class_asked (part_there ps p ∷ parts_there ps behind)) is

    pub opens_first : (at : Spot) (op : Op) → first ≡ kept_parts.Opens at op → class_asked (parts_there ps parts) ≡ []
    opens_first at op is = ap (λ xs. class_asked (parts_there ps xs)) front ∙ ap (λ p. class_asked (part_there ps p ∷ parts_there ps behind)) is

    pub closes_first : first ≡ kept_parts.Closes → class_asked (parts_there ps parts) ≡ []
    closes_first is = ap (λ xs. class_asked (parts_there ps xs)) front ∙ ap (λ p. class_asked (part_there ps p ∷ parts_there ps behind)) is

    -- how many parts the first term has
    pub word_term : (w : PlacedWord) → first ≡ kept_parts.Word w → 1 ≡ term_parts (parts_there ps parts)
    word_term w is = sym (ap (λ xs. term_parts (parts_there ps xs)) front ∙ ap (λ p. term_parts (part_there ps p ∷ parts_there ps behind)) is)

    pub text_term : (at : Spot) (bytes : List ℕ) → first ≡ kept_parts.Text at bytes → 1 ≡ term_parts (parts_there ps parts)
    text_term at bytes is = sym (ap (λ xs. term_parts (parts_there ps xs)) front ∙ ap (λ p. term_parts (part_there ps p ∷ parts_there ps behind)) is)

    pub closes_term : first ≡ kept_parts.Closes → 1 ≡ term_parts (parts_there ps parts)
    closes_term is = sym (ap (λ xs. term_parts (parts_there ps xs)) front ∙ ap (λ p. term_parts (part_there ps p ∷ parts_there ps behind)) is)

    pub opens_term : (at : Spot) (op : Op) (inside : ℕ) → first ≡ kept_parts.Opens at op → inside ≡ parts_inside 0 (parts_there ps behind) → inside + 1 ≡ term_parts (parts_there ps parts)
    opens_term at op inside is same =
        let term : term_parts (parts_there ps parts) ≡ suc (parts_inside 0 (parts_there ps behind)) =
        ap (λ xs. term_parts (parts_there ps xs)) front ∙ ap (λ p. term_parts (part_there ps p ∷ parts_there ps behind)) is in
        omega (arith, term, same)

  pub no_term : (parts : List kept_part.Part) → parts ≡ [] → 0 ≡ term_parts (parts_there ps parts)
  no_term parts is = sym (ap (λ xs. term_parts (parts_there ps xs)) is)

  pub both_terms : (parts rest : List kept_part.Part) (first second : ℕ) → rest ≡ drop first parts → first ≡ term_parts (parts_there ps parts) → second ≡ term_parts (parts_there ps rest)
      → first + second ≡ two_parts (parts_there ps parts)
  both_terms parts rest first second is one two =
      let behind = two ∙ ap (λ xs. term_parts (parts_there ps xs)) is ∙ ap term_parts (sym (drop-map (part_there ps) first parts)) ∙ ap (λ n. term_parts (drop n (parts_there ps parts))) one in
      λ i. one i + behind i

  -- a class list, and what is behind it
  pub list_read : (parts front rest : List kept_part.Part) (inside : ℕ) (old new : List Asked) → inside ≡ parts_inside 0 (parts_there ps parts) → front ≡ take inside parts → rest ≡ drop inside parts
      → asked_there new ≡ asked_there old ++ class_asked (parts_there ps front)
      → asked_there new ++ parts_asked 0 (parts_there ps rest)
      ≡ asked_there old ++ (class_asked (take (parts_inside 0 (parts_there ps parts)) (parts_there ps parts)) ++ parts_asked (parts_inside 0 (parts_there ps parts)) (parts_there ps parts))
  list_read parts front rest inside old new counted first behind push =
      let xs = parts_there ps parts in
      let here = ap (parts_there ps) first ∙ sym (take-map (part_there ps) inside parts) ∙ ap (λ n. take n xs) counted in
      let there = ap (parts_there ps) behind ∙ sym (drop-map (part_there ps) inside parts) ∙ ap (λ n. drop n xs) counted in
      ap (λ l. l ++ parts_asked 0 (parts_there ps rest)) push
      ∙ append_assoc (asked_there old) (class_asked (parts_there ps front)) (parts_asked 0 (parts_there ps rest))
      ∙ ap (λ ys. asked_there old ++ (class_asked ys ++ parts_asked 0 (parts_there ps rest))) here
      ∙ ap (λ ys. asked_there old ++ (class_asked (take (parts_inside 0 xs) xs) ++ parts_asked 0 ys)) there
      ∙ ap (λ l. asked_there old ++ (class_asked (take (parts_inside 0 xs) xs) ++ l)) (sym (passed_over (parts_inside 0 xs) xs))

  -- a classmapping
  pub mapping_read : (parts front rest : List kept_part.Part) (two : ℕ) (old mid new : List Asked) → two ≡ two_parts (parts_there ps parts) → front ≡ take two parts → rest ≡ drop two parts
      → asked_there mid ≡ asked_there old ++ class_asked (parts_there ps front) → asked_there new ≡ asked_there mid ++ parts_asked 0 (parts_there ps rest)
      → asked_there new ≡ asked_there old ++ mapping_asked (parts_there ps parts)
  mapping_read parts front rest two old mid new counted first behind class_ others =
      let xs = parts_there ps parts in
      let here = ap (parts_there ps) first ∙ sym (take-map (part_there ps) two parts) ∙ ap (λ n. take n xs) counted in
      let there = ap (parts_there ps) behind ∙ sym (drop-map (part_there ps) two parts) ∙ ap (λ n. drop n xs) counted in
      others
      ∙ ap (λ l. l ++ parts_asked 0 (parts_there ps rest)) class_
      ∙ append_assoc (asked_there old) (class_asked (parts_there ps front)) (parts_asked 0 (parts_there ps rest))
      ∙ ap (λ ys. asked_there old ++ (class_asked ys ++ parts_asked 0 (parts_there ps rest))) here
      ∙ ap (λ ys. asked_there old ++ (class_asked (take (two_parts xs) xs) ++ parts_asked 0 ys)) there

  -- the part at a place, and those behind it
  pub at_place : (parts : List kept_part.Part) (at : ℕ) (x d : kept_part.Part) (old : List Wanted) → at < length parts → x ≡ get_or parts at d
      → old ++ parts_asked 0 (parts_there ps (x ∷ drop (at + 1) parts)) ≡ old ++ parts_asked 0 (parts_there ps (drop at parts))
  at_place parts at x d old within is = ap (λ xs. old ++ parts_asked 0 (parts_there ps xs)) (sym (drop_at parts at x d within is))

  -- the first part, and those behind it
  module _ (first : kept_part.Part) (behind : List kept_part.Part) (old : List Asked) where
    abbrev from_here : List Wanted
    from_here = asked_there old ++ parts_asked 0 (parts_there ps (first ∷ behind))

    pub word_asked : (w copied : PlacedWord) (new : List Asked) → first ≡ kept_parts.Word w → copied ≡ w → new ≡ old ++ asked.Word copied ∷ []
        → asked_there new ++ parts_asked 0 (parts_there ps behind) ≡ from_here
    unfolding parts_asked
    word_asked w copied new is same push =
        let rest = parts_asked 0 (parts_there ps behind) in
        ap (λ l. l ++ rest) (one_asked (wanted_by ps) old new (asked.Word copied) push)
        ∙ append_assoc (asked_there old) (AWord (scoped_by ps copied) ∷ []) rest
        ∙ ap (λ v. asked_there old ++ AWord (scoped_by ps v) ∷ rest) same
        ∙ ap (λ p. asked_there old ++ parts_asked 0 (parts_there ps (p ∷ behind))) (sym is)

    pub text_asked : (at : Spot) (bytes : List ℕ) → first ≡ kept_parts.Text at bytes → asked_there old ++ parts_asked 0 (parts_there ps behind) ≡ from_here
    unfolding parts_asked
    text_asked at bytes is = ap (λ p. asked_there old ++ parts_asked 0 (parts_there ps (p ∷ behind))) (sym is)

    pub closes_asked : first ≡ kept_parts.Closes → asked_there old ++ parts_asked 0 (parts_there ps behind) ≡ from_here
    unfolding parts_asked
    closes_asked is = ap (λ p. asked_there old ++ parts_asked 0 (parts_there ps (p ∷ behind))) (sym is)

    module _ (at : Spot) (op : Op) (is : first ≡ kept_parts.Opens at op) where
      listed : List Wanted
      listed =
          class_asked (take (parts_inside 0 (parts_there ps behind)) (parts_there ps behind))
          ++ parts_asked (parts_inside 0 (parts_there ps behind)) (parts_there ps behind)

      opened : (b : Bool) → is_class_list op ≡ b → from_here ≡ asked_there old ++ (if b then listed else parts_asked 0 (parts_there ps behind))
      unfolding parts_asked listed
      opened b e =
          ap (λ p. asked_there old ++ parts_asked 0 (parts_there ps (p ∷ behind))) is
          ∙ ap (λ c. asked_there old ++ (if c then listed else parts_asked 0 (parts_there ps behind))) e

      pub form_opened : is_class_list op ≡ false → asked_there old ++ parts_asked 0 (parts_there ps behind) ≡ from_here
      form_opened other = sym (opened false other)

      pub list_opened : is_class_list op ≡ true → (new : List Wanted)
          → new ≡ asked_there old ++ (class_asked (take (parts_inside 0 (parts_there ps behind)) (parts_there ps behind)) ++ parts_asked (parts_inside 0 (parts_there ps behind)) (parts_there ps behind))
          → new ≡ from_here
      unfolding listed
      list_opened of_class new e = e ∙ sym (opened true of_class)

  -- all parts
  pub all_asked : (rest : List kept_part.Part) (here total : List Wanted) → rest ≡ [] → here ++ parts_asked 0 (parts_there ps rest) ≡ total → here ≡ total
  unfolding parts_asked
  all_asked rest here total none so = sym (ap (λ xs. here ++ parts_asked 0 (parts_there ps xs)) none ∙ append-nil here) ∙ so
