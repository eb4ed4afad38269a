-- Terms as their parts, and what parts say: the parts of some terms say these terms.
use Rattle.std.proofs.Common.{◌≡◌, List, [], ◌∷◌, ◌++◌, refl, sym, ◌∙◌, ap, append_assoc}
use Rattle.std.proofs.lemmas.List.{append-nil, map-append}
use Rattle.cil_syntax.specs.declared.term.Op.{Op}
use Rattle.cil_faults.specs.declared.spot.Spot.{Spot}
use Rattle.cil_syntax.specs.Scopes.{ScopedWord}
use Rattle.cil_syntax.specs.Terms.{Term, Leaf, Name, Form, Terms, nil, cons}
use Rattle.cil_macros.specs.declared.listed.Listed.{Listed}
use Rattle.cil_macros.specs.declared.listed.Part as kept_part
use Rattle.cil_macros.specs.declared.listed.Part.TheVariants as kept_parts
use Rattle.cil_macros.specs.Item.{all_words_in, words_in}
use Rattle.cil_macros.specs.Listed.{IsWholeList, Part, all_parts_of, closes, list_there, opens, part_there, parts_of, parts_there, read_parts, terms_in, text, with_part, word as part_word, words_in_parts}
use Rattle.cil_macros.specs.Placed.{Placed}

-- terms behind others
behind : Terms ScopedWord → Terms ScopedWord → Terms ScopedWord
behind nil us = us
behind (cons t ts) us = cons t (behind ts us)

none_behind : (ts : Terms ScopedWord) → behind ts nil ≡ ts
unfolding behind
none_behind nil = refl
none_behind (cons t ts) = ap (cons t) (none_behind ts)

mutual
  unfolding behind parts_of read_parts

  term_read : (t : Term ScopedWord) (xs : List Part) → read_parts (parts_of t ++ xs) ≡ (cons t (read_parts xs).0, (read_parts xs).1)
  term_read (Leaf w) xs = refl
  term_read (Name at bytes) xs = refl
  term_read (Form at op ts) xs =
      ap (λ ys. with_part (opens at op) (read_parts ys)) (append_assoc (all_parts_of ts) (closes ∷ []) xs)
      ∙ ap (with_part (opens at op)) (terms_read ts (closes ∷ xs))
      ∙ ap (λ us. (cons (Form at op us) (read_parts xs).0, (read_parts xs).1)) (none_behind ts)

  terms_read : (ts : Terms ScopedWord) (xs : List Part) → read_parts (all_parts_of ts ++ xs) ≡ (behind ts (read_parts xs).0, (read_parts xs).1)
  terms_read nil xs = refl
  terms_read (cons t ts) xs =
      ap read_parts (append_assoc (parts_of t) (all_parts_of ts) xs)
      ∙ term_read t (all_parts_of ts ++ xs)
      ∙ ap (λ (r : Terms ScopedWord × List (Terms ScopedWord)). (cons t r.0, r.1)) (terms_read ts xs)

-- the parts of some terms say these
pub terms_in_parts : (ts : Terms ScopedWord) → terms_in (all_parts_of ts) ≡ ts
unfolding read_parts
terms_in_parts ts =
    ap terms_in (sym (append-nil (all_parts_of ts)))
    ∙ ap (λ (r : Terms ScopedWord × List (Terms ScopedWord)). r.0) (terms_read ts [])
    ∙ none_behind ts

module _ (ps : List Placed) (l : Listed) (ts : Terms ScopedWord) (e : parts_there ps l.parts.items ≡ all_parts_of ts) where
  pub says_terms : terms_in (parts_there ps l.parts.items) ≡ ts
  says_terms = ap terms_in e ∙ terms_in_parts ts

  pub whole_so : IsWholeList ps l
  whole_so = e ∙ sym (ap all_parts_of says_terms)

-- ---- words

words_behind : (xs ys : List Part) → words_in_parts (xs ++ ys) ≡ words_in_parts xs ++ words_in_parts ys
unfolding words_in_parts
words_behind [] ys = refl
words_behind (part_word w ∷ xs) ys = ap (λ ws. w ∷ ws) (words_behind xs ys)
words_behind (text at bytes ∷ xs) ys = words_behind xs ys
words_behind (opens at op ∷ xs) ys = words_behind xs ys
words_behind (closes ∷ xs) ys = words_behind xs ys

mutual
  unfolding parts_of words_in_parts words_in

  term_words : (t : Term ScopedWord) → words_in_parts (parts_of t) ≡ words_in t
  term_words (Leaf w) = refl
  term_words (Name at bytes) = refl
  term_words (Form at op ts) = words_behind (all_parts_of ts) (closes ∷ []) ∙ append-nil (words_in_parts (all_parts_of ts)) ∙ terms_words ts

  -- the words of some terms are those among their parts
  pub terms_words : (ts : Terms ScopedWord) → words_in_parts (all_parts_of ts) ≡ all_words_in ts
  terms_words nil = refl
  terms_words (cons t ts) = words_behind (parts_of t) (all_parts_of ts) ∙ (λ i. term_words t i ++ terms_words ts i)

pub form_parts : (at : Spot) (op : Op) (ts : Terms ScopedWord) → parts_of (Form at op ts) ≡ opens at op ∷ (all_parts_of ts ++ closes ∷ [])
unfolding parts_of
form_parts at op ts = refl

pub leaf_parts : (w : ScopedWord) → parts_of (Leaf w) ≡ Rattle.cil_macros.specs.Listed.word w ∷ []
unfolding parts_of
leaf_parts w = refl

-- ---- parts behind others, as they are kept

module _ (ps : List Placed) where
  pub behind_there : (xs ys new : List kept_part.Part) → new ≡ xs ++ ys → parts_there ps new ≡ parts_there ps xs ++ parts_there ps ys
  behind_there xs ys new e = ap (parts_there ps) e ∙ map-append (part_there ps) xs ys

  -- what was put between the signs that a list begins and ends is what it joins
  pub between : (at : Spot) (op : Op) (old first more new : List kept_part.Part) (ts : Terms ScopedWord) → first ≡ old ++ kept_parts.Opens at op ∷ []
      → parts_there ps more ≡ parts_there ps first ++ all_parts_of ts → new ≡ more ++ kept_parts.Closes ∷ []
      → parts_there ps new ≡ parts_there ps old ++ parts_of (Form at op ts)
  between at op old first more new ts e f g =
      behind_there more (kept_parts.Closes ∷ []) new g
      ∙ ap (λ xs. xs ++ closes ∷ []) (f ∙ ap (λ xs. xs ++ all_parts_of ts) (behind_there old (kept_parts.Opens at op ∷ []) first e))
      ∙ ap (λ xs. xs ++ closes ∷ []) (append_assoc (parts_there ps old) (opens at op ∷ []) (all_parts_of ts))
      ∙ append_assoc (parts_there ps old) (opens at op ∷ all_parts_of ts) (closes ∷ [])
      ∙ ap (λ xs. parts_there ps old ++ xs) (sym (form_parts at op ts))

  -- a list that is kept
  pub list_between : (l : Listed) (old first more new : List kept_part.Part) → first ≡ old ++ kept_parts.Opens l.at l.op ∷ [] → more ≡ first ++ l.parts.items
      → new ≡ more ++ kept_parts.Closes ∷ [] → IsWholeList ps l → parts_there ps new ≡ parts_there ps old ++ parts_of (list_there ps l)
  list_between l old first more new e f g whole =
      between l.at l.op old first more new (terms_in (parts_there ps l.parts.items)) e
      (behind_there first l.parts.items more f ∙ ap (λ xs. parts_there ps first ++ xs) whole) g
