-- Terms that are made of parts, from the last part on.
use Rattle.std.specs.declared.alloc.Global.{Global}
use Rattle.std.specs.declared.vec.Vec.{Vec}
use Rattle.std.proofs.Common.{◌≡◌, ℕ, ◌+◌, List, [], ◌∷◌, ◌++◌, drop, length, map, refl, sym, ◌∙◌, ap, subst, arith}
use Rattle.std.specs.Prelude.{Err, IfOk, Ok, Result, Some, reverse, slice_get}
use Rattle.std.proofs.lemmas.List.{drop_all, reverse-append}
use Rattle.std.proofs.lemmas.Option.{slice_get_within}
use Rattle.cil_base.specs.Places.{cons_head, cons_tail, drop_at, get_so}
use Rattle.cil_faults.specs.declared.spot.Spot.{Spot}
use Rattle.cil_syntax.specs.declared.term.LookedUp.{LookedUp}
use Rattle.cil_syntax.specs.declared.term.Op.{Op}
use Rattle.cil_syntax.specs.declared.term.Term as rust
use Rattle.cil_syntax.specs.declared.term.Term.TheVariants as variants
use Rattle.cil_syntax.specs.declared.term.Word.{Word}
use Rattle.cil_syntax.specs.Said.{all_said, said_of, word_in}
use Rattle.cil_syntax.specs.Scopes.{ScopedWord}
use Rattle.cil_syntax.specs.Terms.{Term, Leaf, Name, Form, Terms, nil, cons}
use Rattle.cil_syntax.proofs.SaidLemmas.{form_said, leaf_said, name_said}
use Rattle.cil_macros.specs.declared.list_terms.Reading.{Reading}
use Rattle.cil_macros.specs.declared.listed.Part as kept_part
use Rattle.cil_macros.specs.Item.{all_replaced, replaced}
use Rattle.cil_macros.specs.Listed.{Part, Read, all_parts_of, closes, listed_in, parts_there, read_parts, terms_in, text as part_text, with_part, word as part_word}
use Rattle.cil_macros.specs.ListTerms.{AreAlike, AreRead, all_spotless, level_seen, nowhere, numbered, outer_seen, spotless, word_in_part}
use Rattle.cil_macros.specs.Placed.{Placed}
use Rattle.cil_macros.proofs.PartLemmas.{terms_in_parts}

-- what is said of words, and the places of lists, are put in at once
module _ (f : Word → ScopedWord) where
  abbrev seen : Term Word → Term ScopedWord
  seen = replaced (λ at. nowhere) f

  abbrev all_seen : Terms Word → Terms ScopedWord
  all_seen = all_replaced (λ at. nowhere) f

  mutual
    unfolding replaced all_replaced

    one_over : (t : Term Word) → spotless (replaced (λ at. at) f t) ≡ seen t
    one_over (Leaf w) = refl
    one_over (Name at bytes) = refl
    one_over (Form at op ts) = ap (Form nowhere op) (all_over ts)

    pub all_over : (ts : Terms Word) → all_spotless (all_replaced (λ at. at) f ts) ≡ all_seen ts
    all_over nil = refl
    all_over (cons t ts) = λ i. cons (one_over t i) (all_over ts i)

  leaf_seen : (m : ℕ) (w : LookedUp) → seen (said_of m (variants.Leaf w)) ≡ Leaf (f (word_in m w))
  unfolding replaced
  leaf_seen m w = ap seen (leaf_said m w)

  name_seen : (m at : ℕ) (bytes : List ℕ) → seen (said_of m (variants.Name at bytes)) ≡ Name nowhere bytes
  unfolding replaced
  name_seen m at bytes = ap seen (name_said m at bytes)

  form_seen : (m at : ℕ) (op : Op) (parts : Vec rust.Term Global) → seen (said_of m (variants.Form op at parts)) ≡ Form nowhere op (all_seen (all_said m parts.items))
  unfolding replaced
  form_seen m at op parts = ap seen (form_said m at op parts)

  cons_seen : (t : Term Word) (ts : Terms Word) → all_seen (cons t ts) ≡ cons (seen t) (all_seen ts)
  unfolding all_replaced
  cons_seen t ts = refl

none_spotless : all_spotless nil ≡ nil
unfolding all_replaced
none_spotless = refl

leaf_spotless : (w : ScopedWord) (ts : Terms ScopedWord) → all_spotless (cons (Leaf w) ts) ≡ cons (Leaf w) (all_spotless ts)
unfolding all_replaced replaced
leaf_spotless w ts = refl

name_spotless : (at : Spot) (bytes : List ℕ) (ts : Terms ScopedWord) → all_spotless (cons (Name at bytes) ts) ≡ cons (Name nowhere bytes) (all_spotless ts)
unfolding all_replaced replaced
name_spotless at bytes ts = refl

form_spotless : (at : Spot) (op : Op) (us ts : Terms ScopedWord) → all_spotless (cons (Form at op us) ts) ≡ cons (Form nowhere op (all_spotless us)) (all_spotless ts)
unfolding all_replaced replaced
form_spotless at op us ts = refl

module _ (xs : List Part) (m : ℕ) where
  abbrev f : Word → ScopedWord
  f = numbered xs

  level_more : (ts : List rust.Term) (t : rust.Term) → level_seen xs m (ts ++ t ∷ []) ≡ cons (replaced (λ at. nowhere) f (said_of m t)) (level_seen xs m ts)
  level_more ts t = ap (λ us. all_replaced (λ at. nowhere) f (all_said m us)) (reverse-append ts (t ∷ [])) ∙ cons_seen f (said_of m t) (all_said m (reverse ts))

  none_seen : level_seen xs m [] ≡ nil
  unfolding all_replaced
  none_seen = refl

  outer_more : (outer : List (Vec rust.Term Global)) (v : Vec rust.Term Global) → outer_seen xs m (outer ++ v ∷ []) ≡ level_seen xs m v.items ∷ outer_seen xs m outer
  outer_more outer v = ap (map (λ (u : Vec rust.Term Global). level_seen xs m u.items)) (reverse-append outer (v ∷ []))

  -- a term in front of those that were read
  one_more : (old new : Reading) (t : rust.Term) (u : Term ScopedWord) (ts : Terms ScopedWord) (outer : List (Terms ScopedWord)) → new.level.items ≡ old.level.items ++ t ∷ []
      → new.outer.items ≡ old.outer.items → cons (replaced (λ at. nowhere) f (said_of m t)) (all_spotless ts) ≡ all_spotless (cons u ts) → AreRead xs m old (ts, outer)
      → AreRead xs m new (cons u ts, outer)
  one_more old new t u ts outer level same is are = record {
    level = ap (level_seen xs m) level ∙ level_more old.level.items t ∙ ap (cons (replaced (λ at. nowhere) f (said_of m t))) are.level ∙ is;
    outer = ap (outer_seen xs m) same ∙ are.outer;
  }

  pub word_read : (old new : Reading) (w : LookedUp) (v : ScopedWord) (read : Read) → new.level.items ≡ old.level.items ++ variants.Leaf w ∷ [] → new.outer.items ≡ old.outer.items
      → slice_get xs w.at ≡ Some (part_word v) → AreRead xs m old read → AreRead xs m new (with_part (part_word v) read)
  word_read old new w v read level same there are =
      one_more old new (variants.Leaf w) (Leaf v) read.0 read.1 level same
      (ap (λ t. cons t (all_spotless read.0)) (leaf_seen f m w ∙ ap (λ x. Leaf (word_in_part x)) (get_so xs w.at (part_word v) closes there)) ∙ sym (leaf_spotless v read.0)) are

  pub text_read : (old new : Reading) (at : ℕ) (place : Spot) (bytes : List ℕ) (read : Read) → new.level.items ≡ old.level.items ++ variants.Name at bytes ∷ [] → new.outer.items ≡ old.outer.items
      → AreRead xs m old read → AreRead xs m new (with_part (part_text place bytes) read)
  text_read old new at place bytes read level same are =
      one_more old new (variants.Name at bytes) (Name place bytes) read.0 read.1 level same
      (ap (λ t. cons t (all_spotless read.0)) (name_seen f m at bytes) ∙ sym (name_spotless place bytes read.0)) are

  -- a list begins
  pub begun : (old new : Reading) (level : Vec rust.Term Global) (read : Read) → new.level.items ≡ [] → new.outer.items ≡ old.outer.items ++ level ∷ [] → level.items ≡ old.level.items
      → AreRead xs m old read → AreRead xs m new (nil, read.0 ∷ read.1)
  begun old new level read empty more same are = record {
    level = ap (level_seen xs m) empty ∙ none_seen ∙ sym none_spotless;
    outer = ap (outer_seen xs m) more ∙ outer_more old.outer.items level ∙ (λ i. (ap (level_seen xs m) same ∙ are.level) i ∷ are.outer i);
  }

  -- a list ends: what it joins
  module _ (op : Op) (place : Spot) (old new : Reading) (inner : Vec rust.Term Global) (turned : inner.items ≡ reverse old.level.items) where
    its_list : (ts us : Terms ScopedWord) → level_seen xs m old.level.items ≡ all_spotless ts
        → cons (replaced (λ at. nowhere) f (said_of m (variants.Form op 0 inner))) (all_spotless us) ≡ all_spotless (cons (Form place op ts) us)
    its_list ts us are =
        ap (λ t. cons t (all_spotless us)) (form_seen f m 0 op inner ∙ ap (λ ys. Form nowhere op (all_replaced (λ at. nowhere) f (all_said m ys))) turned ∙ ap (Form nowhere op) are)
        ∙ sym (form_spotless place op ts us)

    -- there are lists round it
    pub ended : (rest : List (Vec rust.Term Global)) (terms : Vec rust.Term Global) (ts : Terms ScopedWord) (outer : List (Terms ScopedWord)) → old.outer.items ≡ rest ++ terms ∷ []
        → new.level.items ≡ terms.items ++ variants.Form op 0 inner ∷ [] → new.outer.items ≡ rest → AreRead xs m old (ts, outer) → AreRead xs m new (listed_in place op ts outer)
    ended rest terms ts [] last level left are =
        absurd (let e : level_seen xs m terms.items ∷ outer_seen xs m rest ≡ [] = sym (ap (outer_seen xs m) last ∙ outer_more rest terms) ∙ are.outer in cc)
    ended rest terms ts (us ∷ outer) last level left are =
        let e : level_seen xs m terms.items ∷ outer_seen xs m rest ≡ all_spotless us ∷ map all_spotless outer = sym (ap (outer_seen xs m) last ∙ outer_more rest terms) ∙ are.outer in
        record {
          level =
              ap (level_seen xs m) level
              ∙ level_more terms.items (variants.Form op 0 inner)
              ∙ ap (cons (replaced (λ at. nowhere) f (said_of m (variants.Form op 0 inner)))) (cons_head _ _ _ _ e)
              ∙ its_list ts us are.level;
          outer = ap (outer_seen xs m) left ∙ cons_tail _ _ _ _ e;
        }

    -- there is none
    pub ended_alone : (terms : Vec rust.Term Global) (ts : Terms ScopedWord) (outer : List (Terms ScopedWord)) → old.outer.items ≡ [] → terms.items ≡ []
        → new.level.items ≡ terms.items ++ variants.Form op 0 inner ∷ [] → new.outer.items ≡ [] → AreRead xs m old (ts, outer) → AreRead xs m new (listed_in place op ts outer)
    ended_alone terms ts [] last empty level left are = record {
      level =
          ap (level_seen xs m) level
          ∙ level_more terms.items (variants.Form op 0 inner)
          ∙ ap (λ ys. cons (replaced (λ at. nowhere) f (said_of m (variants.Form op 0 inner))) (level_seen xs m ys)) empty
          ∙ ap (cons (replaced (λ at. nowhere) f (said_of m (variants.Form op 0 inner)))) (none_seen ∙ sym none_spotless)
          ∙ its_list ts nil are.level;
      outer = ap (outer_seen xs m) left;
    }
    ended_alone terms ts (us ∷ outer) last empty level left are = absurd (let e : [] ≡ all_spotless us ∷ map all_spotless outer = sym (ap (outer_seen xs m) last) ∙ are.outer in cc)

  -- ---- all parts

  pub none_read : (r : Reading) (n : ℕ) → n ≡ length xs → r.level.items ≡ [] → r.outer.items ≡ [] → AreRead xs m r (read_parts (drop n xs))
  unfolding read_parts
  none_read r n all level outer = subst (λ ys. AreRead xs m r (read_parts ys)) (sym (ap (λ k. drop k xs) all ∙ drop_all (length xs) xs (omega (arith))))
      (record { level = ap (level_seen xs m) level ∙ none_seen ∙ sym none_spotless; outer = ap (outer_seen xs m) outer })

  read_at : (k : ℕ) (x : Part) → slice_get xs k ≡ Some x → read_parts (drop k xs) ≡ with_part x (read_parts (drop (k + 1) xs))
  unfolding read_parts
  read_at k x there = ap read_parts (drop_at xs k x closes (slice_get_within xs k x there) (sym (get_so xs k x closes there)))

  pub more_read : (k : ℕ) (x : Part) (r : Reading) → slice_get xs k ≡ Some x → AreRead xs m r (with_part x (read_parts (drop (k + 1) xs))) → AreRead xs m r (read_parts (drop k xs))
  more_read k x r there are = subst (AreRead xs m r) (sym (read_at k x there)) are

  pub all_read : (r : Reading) (terms : List rust.Term) → terms ≡ reverse r.level.items → AreRead xs m r (read_parts xs) → AreAlike (all_replaced (λ at. at) (numbered xs) (all_said m terms)) (terms_in xs)
  all_read r terms turned are = ap (λ ts. all_spotless (all_replaced (λ at. at) (numbered xs) (all_said m ts))) turned ∙ all_over f (all_said m (reverse r.level.items)) ∙ are.level

-- the terms of parts that are those of some terms
pub alike_so : (m : ℕ) (terms : List rust.Term) (xs : List Part) (ts : Terms ScopedWord) → xs ≡ all_parts_of ts → AreAlike (all_replaced (λ at. at) (numbered xs) (all_said m terms)) (terms_in xs)
    → AreAlike (all_replaced (λ at. at) (numbered (all_parts_of ts)) (all_said m terms)) ts
alike_so m terms xs ts is are =
    subst (AreAlike (all_replaced (λ at. at) (numbered (all_parts_of ts)) (all_said m terms))) (terms_in_parts ts)
    (subst (λ ys. AreAlike (all_replaced (λ at. at) (numbered ys) (all_said m terms)) (terms_in ys)) is are)

-- those of parts that are handed on
pub handed_on : {E : Type 0} (ps : List Placed) (xs ys : List kept_part.Part) (ts : Terms ScopedWord) → ys ≡ xs → parts_there ps xs ≡ all_parts_of ts → (r : Result (Vec rust.Term Global) E)
    → IfOk r (λ terms. (qs : List Placed) (m : ℕ) → AreAlike (all_replaced (λ at. at) (numbered (parts_there qs ys)) (all_said m terms.items)) (terms_in (parts_there qs ys)))
    → IfOk r (λ terms. (m : ℕ) → AreAlike (all_replaced (λ at. at) (numbered (all_parts_of ts)) (all_said m terms.items)) ts)
handed_on ps xs ys ts same is (Ok terms) are = λ m. alike_so m terms.items (parts_there ps ys) ts (ap (parts_there ps) same ∙ is) (are ps m)
handed_on ps xs ys ts same is (Err e) are = tt
