-- Expressions over a row of what their words mean.
use Rattle.std.specs.Prelude.{◌≡◌, ℕ, zero, suc, ◌+◌, ◌<◌, ◌≤◌, Bool, true, false, ◌&&◌, not, ltb, List, [], ◌∷◌, ◌++◌, All, Option, None, Some, map, length, drop}
use Rattle.std.specs.declared.alloc.Global.{Global}
use Rattle.std.specs.declared.vec.Vec.{Vec}
use Rattle.std.proofs.Common.{get_or, refl, sym, ◌∙◌, ap, subst, arith}
use Rattle.std.proofs.lemmas.List.{map-append, append_assoc}
use Rattle.cil_base.specs.declared.bytes.Bytes.{Bytes}
use Rattle.cil_syntax.specs.declared.term.LookedUp.{LookedUp}
use Rattle.cil_syntax.specs.declared.term.Op.{Op}
use Rattle.cil_syntax.specs.declared.term.Term as rust
use Rattle.cil_syntax.specs.declared.term.Term.TheVariants as variants
use Rattle.cil_syntax.specs.declared.term.Word.{Word}
use Rattle.cil_syntax.specs.Expressions.{Way, by_way, is_in, is_in_each, is_in_odd, is_in_some, way_of}
use Rattle.cil_syntax.specs.Expressions as expressions
use Rattle.cil_syntax.specs.Said.{all_said, said_of, word_in}
use Rattle.cil_syntax.specs.Terms.{Term, Leaf, Name, Form, Terms, nil, cons}
use Rattle.cil_syntax.proofs.SaidLemmas.{form_said, leaf_said, name_said}
use Rattle.cil_attrs.specs.macros.Item.{all_words_in, words_in}
use Rattle.cil_mls.specs.declared.expression.Held.{Held}
use Rattle.cil_mls.specs.declared.expression.Held.TheVariants.{Nothing}
use Rattle.cil_mls.specs.declared.expression.How.{How}
use Rattle.cil_mls.specs.declared.expression.How.TheVariants as hows
use Rattle.cil_mls.specs.declared.expression.Join.{Join}
use Rattle.cil_mls.specs.declared.expression.Join.TheVariants as joins
use Rattle.cil_mls.specs.declared.expression.Valued.{Valued}
use Rattle.cil_mls.specs.Bits.{differ, in_words}
use Rattle.cil_mls.specs.Values.{AreJoined, AreNotTwo, AreTwoWords, IsFew, IsFormed, IsLeaf, IsNoLeaf, IsValue, end_of, held_between, in_parts, in_span, in_term, is_held, join_of, meant_held, start_of, way_as}

-- ---- what words stand for

few_at : (helds : List Held) → All IsFew helds → (d : ℕ) → IsFew (get_or helds d Nothing)
few_at [] few d = tt
few_at (h ∷ hs) few zero = few zero Nothing (omega arith)
few_at (h ∷ hs) few (suc d) = few_at hs (λ k e l. few (suc k) e (omega (arith, l))) d

pub few_meant : (helds : List Held) → All IsFew helds → (meaning : Option ℕ) → IsFew (meant_held helds meaning)
few_meant helds few None = tt
few_meant helds few (Some d) = few_at helds few d

-- ---- joins

from_start : (j : Join) (b : Bool) → join_of j (start_of j) b ≡ b
from_start joins.Union b = refl
from_start joins.Common b = refl
from_start joins.Apart b = refl

joined_twice : (j : Join) (a b c : Bool) → join_of j a (join_of j b c) ≡ join_of j (join_of j a b) c
joined_twice joins.Union true b c = refl
joined_twice joins.Union false b c = refl
joined_twice joins.Common true b c = refl
joined_twice joins.Common false b c = refl
joined_twice joins.Apart true true true = refl
joined_twice joins.Apart true true false = refl
joined_twice joins.Apart true false c = refl
joined_twice joins.Apart false b c = refl

differ_alike : (a b : Bool) → expressions.differ a b ≡ differ a b
differ_alike true b = refl
differ_alike false b = refl

module _ (helds : List Held) (count : ℕ) (g : Word → Option ℕ) (c : ℕ) where
  -- one part more, and none
  one_part : (j : Join) (t : Term Word) (ts : Terms Word) → in_parts helds count g c j (cons t ts) ≡ join_of j (in_term helds count g c t) (in_parts helds count g c j ts)
  unfolding is_in_some is_in_each is_in_odd
  one_part joins.Union t ts = refl
  one_part joins.Common t ts = refl
  one_part joins.Apart t ts = differ_alike (in_term helds count g c t) (in_parts helds count g c joins.Apart ts)

  no_part : (j : Join) (b : Bool) → join_of j b (in_parts helds count g c j nil) ≡ end_of j (ltb c count) b
  unfolding is_in_some is_in_each is_in_odd
  no_part joins.Union true = refl
  no_part joins.Union false = refl
  no_part joins.Common b = refl
  no_part joins.Apart true = refl
  no_part joins.Apart false = refl

-- ---- a word, a name, a form

module _ (helds : List Held) (count m : ℕ) (g : Word → Option ℕ) (more words : List (Option ℕ)) where
  pub leaf_valued : (t : rust.Term) (w : LookedUp) (r : Valued) → t ≡ variants.Leaf w → ((c : ℕ) → c < 1024 → in_words r.value.words c ≡ is_held c (meant_held helds (get_or words 0 None)))
      → r.rest.now ≡ drop 1 words → words ≡ map g (words_in (said_of m t)) ++ more → IsValue helds count g more (said_of m t) r
  unfolding words_in is_in
  leaf_valued t w r is held rest e =
      let said : said_of m t ≡ Leaf (word_in m w) = ap (said_of m) is ∙ leaf_said m w in
      let row : words ≡ g (word_in m w) ∷ more = e ∙ ap (λ u. map g (words_in u) ++ more) said in
      subst (λ u. IsValue helds count g more u r) (sym said) (record { rest = rest ∙ ap (drop 1) row; value = λ c l. held c l ∙ ap (λ ws. is_held c (meant_held helds (get_or ws 0 None))) row })

  pub name_valued : (t : rust.Term) (at : ℕ) (bytes : Bytes) (r : Valued) → t ≡ variants.Name at bytes → r.rest.now ≡ words → ((c : ℕ) → in_words r.value.words c ≡ false)
      → words ≡ map g (words_in (said_of m t)) ++ more → IsValue helds count g more (said_of m t) r
  unfolding words_in is_in
  name_valued t at bytes r is rest none e =
      let said = ap (said_of m) is ∙ name_said m at bytes in
      subst (λ u. IsValue helds count g more u r) (sym said) (record { rest = rest ∙ e ∙ ap (λ u. map g (words_in u) ++ more) said; value = λ c l. none c })

  pub form_valued : (t : rust.Term) (op : Op) (at : ℕ) (parts : Vec rust.Term Global) (slice : List rust.Term) (how : How) (r : Valued) → t ≡ variants.Form op at parts → slice ≡ parts.items → way_as how ≡ way_of op
      → (words ≡ map g (all_words_in (all_said m slice)) ++ more → IsFormed helds count g more how (all_said m slice) r)
      → words ≡ map g (words_in (said_of m t)) ++ more → IsValue helds count g more (said_of m t) r
  unfolding words_in is_in
  form_valued t op at parts slice how r is same way formed e =
      let said = ap (said_of m) is ∙ form_said m at op parts in
      let all = formed (e ∙ ap (λ u. map g (words_in u) ++ more) said ∙ ap (λ ts. map g (all_words_in (all_said m ts)) ++ more) (sym same)) in
      subst (λ u. IsValue helds count g more u r) (sym said) (record {
        rest = all.rest;
        value = λ c l.
            all.value c l
            ∙ ap (λ w. by_way w (ltb c count) (in_parts helds count g c joins.Union (all_said m slice)) (in_parts helds count g c joins.Common (all_said m slice)) (in_parts helds count g c joins.Apart (all_said m slice)) (in_span helds g c (all_said m slice))) way
            ∙ ap (λ ts. by_way (way_of op) (ltb c count) (in_parts helds count g c joins.Union (all_said m ts)) (in_parts helds count g c joins.Common (all_said m ts)) (in_parts helds count g c joins.Apart (all_said m ts)) (in_span helds g c (all_said m ts))) same;
      })

-- ---- the loop over parts

-- what is left: with what the words have, it makes what all parts make
pub record IsLeft (helds : List Held) (count : ℕ) (join : Join) (parts : List rust.Term) (words : List (Option ℕ)) (i : ℕ) (set : List ℕ) (rest : List (Option ℕ)) : Type 0 where
  pub so : (m : ℕ) (g : Word → Option ℕ) (more : List (Option ℕ)) → words ≡ map g (all_words_in (all_said m parts)) ++ more
      → (rest ≡ map g (all_words_in (all_said m (drop i parts))) ++ more)
      × ((c : ℕ) → c < 1024 → in_parts helds count g c join (all_said m parts) ≡ join_of join (in_words set c) (in_parts helds count g c join (all_said m (drop i parts))))

pub all_left : (helds : List Held) (count : ℕ) (join : Join) (parts : List rust.Term) (words : List (Option ℕ)) (set : List ℕ) → ((c : ℕ) → c < 1024 → in_words set c ≡ start_of join)
    → IsLeft helds count join parts words 0 set words
all_left helds count join parts words set start = record {
  so = λ m g more e. (
    e,
    λ c l. sym (from_start join (in_parts helds count g c join (all_said m parts))) ∙ ap (λ b. join_of join b (in_parts helds count g c join (all_said m parts))) (sym (start c l)),
  );
}

dropped : (parts : List rust.Term) (i : ℕ) (d : rust.Term) → i < length parts → drop i parts ≡ get_or parts i d ∷ drop (i + 1) parts
dropped [] i d l = absurd (omega (arith, l))
dropped (t ∷ ts) zero d l = refl
dropped (t ∷ ts) (suc i) d l = let e : suc i + 1 ≡ suc (i + 1) = omega arith in dropped ts i d (omega (arith, l)) ∙ ap (λ k. get_or ts i d ∷ drop k (t ∷ ts)) (sym e)

pub one_less : (helds : List Held) (count : ℕ) (join : Join) (parts : List rust.Term) (words : List (Option ℕ)) (i : ℕ) (set new : List ℕ) (rest : List (Option ℕ)) (d part : rust.Term) (one : Valued) → i < length parts
    → part ≡ get_or parts i d
    → ((m : ℕ) (g : Word → Option ℕ) (more : List (Option ℕ)) → rest ≡ map g (words_in (said_of m part)) ++ more → IsValue helds count g more (said_of m part) one)
    → ((c : ℕ) → c < 1024 → in_words new c ≡ join_of join (in_words set c) (in_words one.value.words c)) → IsLeft helds count join parts words i set rest
    → IsLeft helds count join parts words (i + 1) new one.rest.now
unfolding all_words_in
one_less helds count join parts words i set new rest d part one l is valued put left = record {
  so = λ m g more e.
      let was = left.so m g more e in
      let next : drop i parts ≡ part ∷ drop (i + 1) parts = dropped parts i d l ∙ ap (λ t. t ∷ drop (i + 1) parts) (sym is) in
      let behind = map g (all_words_in (all_said m (drop (i + 1) parts))) ++ more in
      let row_is : rest ≡ map g (words_in (said_of m part)) ++ behind =
      was.0 ∙ ap (λ ts. map g (all_words_in (all_said m ts)) ++ more) next
      ∙ ap (λ xs. xs ++ more) (map-append g (words_in (said_of m part)) (all_words_in (all_said m (drop (i + 1) parts))))
      ∙ append_assoc (map g (words_in (said_of m part))) (map g (all_words_in (all_said m (drop (i + 1) parts)))) more in
      let v = valued m g behind row_is in (
        v.rest,
        λ c b.
            let left_parts = in_parts helds count g c join (all_said m (drop (i + 1) parts)) in
            was.1 c b ∙ ap (λ ts. join_of join (in_words set c) (in_parts helds count g c join (all_said m ts))) next
            ∙ ap (join_of join (in_words set c)) (one_part helds count g c join (said_of m part) (all_said m (drop (i + 1) parts)))
            ∙ joined_twice join (in_words set c) (in_term helds count g c (said_of m part)) left_parts
            ∙ ap (λ x. join_of join (join_of join (in_words set c) x) left_parts) (sym (v.value c b))
            ∙ ap (λ x. join_of join x left_parts) (sym (put c b)),
      );
}

none_behind : (parts : List rust.Term) (i : ℕ) → length parts ≤ i → drop i parts ≡ []
none_behind [] zero l = refl
none_behind [] (suc i) l = refl
none_behind (t ∷ ts) zero l = absurd (omega (arith, l))
none_behind (t ∷ ts) (suc i) l = none_behind ts i (omega (arith, l))

pub all_joined : (helds : List Held) (count : ℕ) (join : Join) (parts : List rust.Term) (words : List (Option ℕ)) (i : ℕ) (set : List ℕ) (r : Valued) → length parts ≤ i
    → ((c : ℕ) → c < 1024 → in_words r.value.words c ≡ end_of join (ltb c count) (in_words set c)) → IsLeft helds count join parts words i set r.rest.now
    → (m : ℕ) (g : Word → Option ℕ) (more : List (Option ℕ)) → words ≡ map g (all_words_in (all_said m parts)) ++ more → AreJoined helds count g more join (all_said m parts) r
unfolding all_words_in
all_joined helds count join parts words i set r over ended left m g more e =
    let was = left.so m g more e in
    let none = none_behind parts i over in record {
      rest = was.0 ∙ ap (λ ts. map g (all_words_in (all_said m ts)) ++ more) none;
      value = λ c l. ended c l
          ∙ sym (was.1 c l ∙ ap (λ ts. join_of join (in_words set c) (in_parts helds count g c join (all_said m ts))) none ∙ no_part helds count g c join (in_words set c));
    }

-- ---- forms, by how their parts are joined

module _ (helds : List Held) (count : ℕ) (g : Word → Option ℕ) (more : List (Option ℕ)) (ts : Terms Word) (how : How) where
  pub formed_everything : (r v : Valued) → how ≡ hows.Everything → AreJoined helds count g more joins.Union ts r → v.rest.now ≡ r.rest.now → ((c : ℕ) → c < 1024 → in_words v.value.words c ≡ ltb c count)
      → IsFormed helds count g more how ts v
  formed_everything r v e j same first = subst (λ h. IsFormed helds count g more h ts v) (sym e) (record { rest = same ∙ j.rest; value = first })

  pub formed_others : (r v : Valued) → how ≡ hows.Others → AreJoined helds count g more joins.Union ts r → v.rest.now ≡ r.rest.now
      → ((c : ℕ) → c < 1024 → in_words v.value.words c ≡ (ltb c count && not (in_words r.value.words c))) → IsFormed helds count g more how ts v
  formed_others r v e j same others =
      subst (λ h. IsFormed helds count g more h ts v) (sym e) (record { rest = same ∙ j.rest; value = λ c l. others c l ∙ ap (λ b. ltb c count && not b) (j.value c l) })

  as_joined : (join : Join) (r : Valued) → AreJoined helds count g more join ts r → IsFormed helds count g more (hows.Joined join) ts r
  as_joined joins.Union r j = record { rest = j.rest; value = j.value }
  as_joined joins.Common r j = record { rest = j.rest; value = j.value }
  as_joined joins.Apart r j = record { rest = j.rest; value = j.value }

  pub formed_joined : (join : Join) (r : Valued) → how ≡ hows.Joined join → AreJoined helds count g more join ts r → IsFormed helds count g more how ts r
  formed_joined join r e j = subst (λ h. IsFormed helds count g more h ts r) (sym e) (as_joined join r j)

  pub formed_between : (r v : Valued) → how ≡ hows.Between → AreJoined helds count g more joins.Union ts r → v.rest.now ≡ r.rest.now → ((c : ℕ) → c < 1024 → in_words v.value.words c ≡ in_span helds g c ts)
      → IsFormed helds count g more how ts v
  formed_between r v e j same span = subst (λ h. IsFormed helds count g more h ts v) (sym e) (record { rest = same ∙ j.rest; value = span })

-- ---- from one word to another

module _ (helds : List Held) (g : Word → Option ℕ) (c : ℕ) where
  pub no_span : (ts : Terms Word) → ((v w : Word) → ts ≡ cons (Leaf v) (cons (Leaf w) nil) → ⊥) → in_span helds g c ts ≡ false
  no_span nil none = refl
  no_span (cons a nil) none = refl
  no_span (cons (Name at x) (cons b rest)) none = refl
  no_span (cons (Form at op ts) (cons b rest)) none = refl
  no_span (cons (Leaf v) (cons (Name at x) rest)) none = refl
  no_span (cons (Leaf v) (cons (Form at op ts) rest)) none = refl
  no_span (cons (Leaf v) (cons (Leaf w) nil)) none = absurd (none v w refl)
  no_span (cons (Leaf v) (cons (Leaf w) (cons d rest))) none = refl

  -- two words mean the first two of the row
  pub span_is : (ts : Terms Word) (words more : List (Option ℕ)) → ((v : Word) × (w : Word) × (ts ≡ cons (Leaf v) (cons (Leaf w) nil))) → words ≡ map g (all_words_in ts) ++ more
      → held_between (meant_held helds (get_or words 0 None)) (meant_held helds (get_or words 1 None)) c ≡ in_span helds g c ts
  unfolding words_in all_words_in
  span_is ts words more two e =
      let row : words ≡ g two.0 ∷ g two.1 ∷ more = e ∙ ap (λ us. map g (all_words_in us) ++ more) two.2 in
      ap (λ ws. held_between (meant_held helds (get_or ws 0 None)) (meant_held helds (get_or ws 1 None)) c) row ∙ ap (in_span helds g c) (sym two.2)

-- ---- two words

pub said_leaf : (t : rust.Term) (w : LookedUp) → t ≡ variants.Leaf w → IsLeaf t
said_leaf t w is m = (word_in m w, ap (said_of m) is ∙ leaf_said m w)

pub said_name : (t : rust.Term) (at : ℕ) (bytes : Bytes) → t ≡ variants.Name at bytes → IsNoLeaf t
said_name t at bytes is m w e = let f = sym e ∙ ap (said_of m) is ∙ name_said m at bytes in cc

pub said_form : (t : rust.Term) (op : Op) (at : ℕ) (parts : Vec rust.Term Global) → t ≡ variants.Form op at parts → IsNoLeaf t
said_form t op at parts is m w e = let f = sym e ∙ ap (said_of m) is ∙ form_said m at op parts in cc

pub two_said : (parts : List rust.Term) (a b : rust.Term) → parts ≡ a ∷ b ∷ [] → IsLeaf a → IsLeaf b → AreTwoWords parts
two_said parts a b is p q m =
    let v = p m in let w = q m in
    (v.0, w.0, ap (all_said m) is ∙ ap (λ t. cons t (cons (said_of m b) nil)) v.1 ∙ ap (λ t. cons (Leaf v.0) (cons t nil)) w.1)

pub not_two_said : (parts : List rust.Term) → (length parts ≡ 2 → ⊥) → AreNotTwo parts
not_two_said [] n m v w e = absurd (let f = e in cc)
not_two_said (a ∷ []) n m v w e = absurd (let f : cons (said_of m a) nil ≡ cons (Leaf v) (cons (Leaf w) nil) = e in cc)
not_two_said (a ∷ (b ∷ [])) n m v w e = n refl
not_two_said (a ∷ (b ∷ (d ∷ rest))) n m v w e = absurd (let f : cons (said_of m a) (cons (said_of m b) (cons (said_of m d) (all_said m rest))) ≡ cons (Leaf v) (cons (Leaf w) nil) = e in cc)

pub first_not : (parts : List rust.Term) (a b : rust.Term) → parts ≡ a ∷ b ∷ [] → IsNoLeaf a → AreNotTwo parts
first_not parts a b is none m v w e = none m v (let f : cons (said_of m a) (cons (said_of m b) nil) ≡ cons (Leaf v) (cons (Leaf w) nil) = sym (ap (all_said m) is) ∙ e in cc)

pub second_not : (parts : List rust.Term) (a b : rust.Term) → parts ≡ a ∷ b ∷ [] → IsNoLeaf b → AreNotTwo parts
second_not parts a b is none m v w e = none m w (let f : cons (said_of m a) (cons (said_of m b) nil) ≡ cons (Leaf v) (cons (Leaf w) nil) = sym (ap (all_said m) is) ∙ e in cc)

pub two_of : (parts : List rust.Term) (d e : rust.Term) → length parts ≡ 2 → parts ≡ get_or parts 0 d ∷ get_or parts 1 e ∷ []
two_of [] d e n = absurd (omega (arith, n))
two_of (a ∷ []) d e n = absurd (omega (arith, n))
two_of (a ∷ (b ∷ [])) d e n = refl
two_of (a ∷ (b ∷ (x ∷ rest))) d e n = absurd (omega (arith, n))

pub leaf_as : (a b : rust.Term) → a ≡ b → IsLeaf a → IsLeaf b
leaf_as a b e is = subst IsLeaf e is

pub no_leaf_as : (a b : rust.Term) → a ≡ b → IsNoLeaf a → IsNoLeaf b
no_leaf_as a b e is = subst IsNoLeaf e is
