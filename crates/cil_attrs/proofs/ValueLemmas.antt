-- The value of an expression, evaluated part by part.
use Rattle.std.specs.declared.alloc.Global.{Global}
use Rattle.std.specs.declared.vec.Vec.{Vec}
use Rattle.std.specs.Prelude.{Option}
use Rattle.std.proofs.Common.{◌≡◌, ℕ, suc, ◌+◌, ◌<◌, ◌≤◌, Bool, true, false, ◌&&◌, ◌||◌, not, List, [], ◌∷◌, ◌++◌, length, map, drop, get_or, refl, sym, ◌∙◌, ap, subst, append_assoc, add-one, drop-cons}
use Rattle.std.proofs.lemmas.List.{map-append, drop_all}
use Rattle.cil_base.specs.declared.bytes.Bytes.{Bytes}
use Rattle.cil_syntax.specs.declared.term.LookedUp.{LookedUp}
use Rattle.cil_syntax.specs.declared.term.Op.{Op}
use Rattle.cil_syntax.specs.declared.term.Term as rust
use Rattle.cil_syntax.specs.declared.term.Term.TheVariants as variants
use Rattle.cil_syntax.specs.declared.term.Word.{Word}
use Rattle.cil_syntax.specs.Said.{all_said, said_of, word_in}
use Rattle.cil_syntax.specs.Terms.{Terms, nil, cons}
use Rattle.cil_syntax.proofs.SaidLemmas.{form_said, leaf_said, name_said}
use Rattle.cil_known.specs.macros.Item.{all_words_in, words_in}
use Rattle.cil_sets.specs.declared.part.Joining.{Joining}
use Rattle.cil_sets.specs.declared.part.Joining.TheVariants.{Union, Both, Either}
use Rattle.cil_attrs.specs.declared.evaluator.Held.{Held}
use Rattle.cil_attrs.specs.declared.way.Way as rust_way
use Rattle.cil_attrs.specs.declared.way.Way.TheVariants as ways
use Rattle.cil_base.specs.Among.{among}
use Rattle.cil_attrs.specs.Evaluated.{as_way, BeginWith, BeginWithAll, ended, folded, has_meant, in_each_of, in_form, in_odd_of, in_some_of, in_term, joined_by, started, test_by}
use Rattle.cil_syntax.specs.Expressions.{Complement, EachOf, Everything, OddOf, RangeOf, SomeOf, Way, differ, is_in, is_in_each, is_in_odd, is_in_some, way_of}

module _ (helds : List Held) (all : List ℕ) (g : Word → Option ℕ) (m : ℕ) where
  -- ---- a word, a name, a form

  pub leaf_row : (t : rust.Term) (w : LookedUp) (words more : List (Option ℕ)) → t ≡ variants.Leaf w → BeginWith g (said_of m t) words more → words ≡ g (word_in m w) ∷ more
  unfolding words_in
  leaf_row t w words more is b = b ∙ ap (λ e. map g (words_in e) ++ more) (ap (said_of m) is ∙ leaf_said m w)

  pub leaf_value : (v : ℕ) (t : rust.Term) (w : LookedUp) → t ≡ variants.Leaf w → in_term helds all g v (said_of m t) ≡ has_meant helds v (g (word_in m w))
  unfolding is_in
  leaf_value v t w is = ap (in_term helds all g v) (ap (said_of m) is ∙ leaf_said m w)

  pub name_row : (t : rust.Term) (at : ℕ) (bytes : Bytes) (words more : List (Option ℕ)) → t ≡ variants.Name at bytes → BeginWith g (said_of m t) words more → words ≡ more
  unfolding words_in
  name_row t at bytes words more is b = b ∙ ap (λ e. map g (words_in e) ++ more) (ap (said_of m) is ∙ name_said m at bytes)

  pub name_value : (v : ℕ) (t : rust.Term) (at : ℕ) (bytes : Bytes) → t ≡ variants.Name at bytes → in_term helds all g v (said_of m t) ≡ false
  unfolding is_in
  name_value v t at bytes is = ap (in_term helds all g v) (ap (said_of m) is ∙ name_said m at bytes)

  pub form_row : (t : rust.Term) (at : ℕ) (op : Op) (parts : Vec rust.Term Global) (words more : List (Option ℕ)) → t ≡ variants.Form op at parts → BeginWith g (said_of m t) words more
      → BeginWithAll g (all_said m parts.items) words more
  unfolding words_in
  form_row t at op parts words more is b = b ∙ ap (λ e. map g (words_in e) ++ more) (ap (said_of m) is ∙ form_said m at op parts)

  pub form_value : (v : ℕ) (t : rust.Term) (at : ℕ) (op : Op) (parts : Vec rust.Term Global) → t ≡ variants.Form op at parts
      → in_term helds all g v (said_of m t) ≡ in_form helds all g v (way_of op) (all_said m parts.items)
  unfolding is_in
  form_value v t at op parts is = ap (in_term helds all g v) (ap (said_of m) is ∙ form_said m at op parts)

  -- ---- parts, one after another

  row_cons : (t : rust.Term) (ts : List rust.Term) (rest more : List (Option ℕ)) → BeginWithAll g (all_said m (t ∷ ts)) rest more
      → BeginWith g (said_of m t) rest (map g (all_words_in (all_said m ts)) ++ more)
  unfolding words_in all_words_in
  row_cons t ts rest more b =
      b ∙ ap (λ ys. ys ++ more) (map-append g (words_in (said_of m t)) (all_words_in (all_said m ts))) ∙ append_assoc (map g (words_in (said_of m t))) (map g (all_words_in (all_said m ts))) more

  row_nil : (rest more : List (Option ℕ)) → BeginWithAll g (all_said m []) rest more → rest ≡ more
  unfolding all_words_in
  row_nil rest more b = b

  folded_cons : (v : ℕ) (how : Joining) (x : Bool) (t : rust.Term) (ts : List rust.Term) → folded helds all g v how x (all_said m (t ∷ ts)) ≡ folded helds all g v how (test_by how x (in_term helds all g v (said_of m t))) (all_said m ts)
  unfolding folded
  folded_cons v how x t ts = refl

  folded_nil : (v : ℕ) (how : Joining) (x : Bool) → folded helds all g v how x (all_said m []) ≡ x
  unfolding folded
  folded_nil v how x = refl

  next_parts : (parts : List rust.Term) (i : ℕ) (part : rust.Term) → i < length parts → part ≡ get_or parts i part → drop i parts ≡ part ∷ drop (i + 1) parts
  next_parts parts i part l is = drop-cons parts i part l ∙ ap (λ p. p ∷ drop (suc i) parts) (sym is) ∙ ap (λ k. part ∷ drop k parts) (sym (add-one i))

  -- one part more of the loop
  pub part_row : (parts : List rust.Term) (i : ℕ) (part : rust.Term) (rest more : List (Option ℕ)) → i < length parts → part ≡ get_or parts i part
      → BeginWithAll g (all_said m (drop i parts)) rest more → BeginWith g (said_of m part) rest (map g (all_words_in (all_said m (drop (i + 1) parts))) ++ more)
  part_row parts i part rest more l is b = row_cons part (drop (i + 1) parts) rest more (subst (λ ts. BeginWithAll g (all_said m ts) rest more) (next_parts parts i part l is) b)

  pub part_folded : (parts : List rust.Term) (i v : ℕ) (part : rust.Term) (how : Joining) (old new : Bool) → i < length parts → part ≡ get_or parts i part
      → new ≡ test_by how old (in_term helds all g v (said_of m part)) → folded helds all g v how new (all_said m (drop (i + 1) parts)) ≡ folded helds all g v how old (all_said m (drop i parts))
  part_folded parts i v part how old new l is e =
      ap (λ x. folded helds all g v how x (all_said m (drop (i + 1) parts))) e ∙ sym (folded_cons v how old part (drop (i + 1) parts))
      ∙ ap (λ ts. folded helds all g v how old (all_said m ts)) (sym (next_parts parts i part l is))

  pub last_row : (parts : List rust.Term) (i : ℕ) (rest more : List (Option ℕ)) → length parts ≤ i → BeginWithAll g (all_said m (drop i parts)) rest more → rest ≡ more
  last_row parts i rest more l b = row_nil rest more (subst (λ ts. BeginWithAll g (all_said m ts) rest more) (drop_all i parts l) b)

  pub last_folded : (parts : List rust.Term) (i v : ℕ) (how : Joining) (x : Bool) → length parts ≤ i → folded helds all g v how x (all_said m (drop i parts)) ≡ x
  last_folded parts i v how x l = ap (λ ts. folded helds all g v how x (all_said m ts)) (drop_all i parts l) ∙ folded_nil v how x

-- ---- what parts make of a form

module _ (helds : List Held) (all : List ℕ) (g : Word → Option ℕ) (v : ℕ) where
  or_assoc : (a b c : Bool) → ((a || b) || c) ≡ (a || (b || c))
  or_assoc true b c = refl
  or_assoc false b c = refl

  and_assoc : (a b c : Bool) → ((a && b) && c) ≡ (a && (b && c))
  and_assoc true b c = refl
  and_assoc false b c = refl

  differ_assoc : (a b c : Bool) → differ (differ a b) c ≡ differ a (differ b c)
  differ_assoc true true true = refl
  differ_assoc true true false = refl
  differ_assoc true false c = refl
  differ_assoc false b c = refl

  or_nothing : (a : Bool) → a ≡ (a || false)
  or_nothing true = refl
  or_nothing false = refl

  differ_nothing : (a : Bool) → a ≡ differ a false
  differ_nothing true = refl
  differ_nothing false = refl

  pub union_folded : (x : Bool) (ts : Terms Word) → folded helds all g v Union x ts ≡ (x || in_some_of helds all g v ts)
  unfolding folded is_in_some
  union_folded x nil = or_nothing x
  union_folded x (cons a ts) = union_folded (x || in_term helds all g v a) ts ∙ or_assoc x (in_term helds all g v a) (in_some_of helds all g v ts)

  each_folded : (x : Bool) (ts : Terms Word) → (x && among all v) ≡ x → folded helds all g v Both x ts ≡ (x && in_each_of helds all g v ts)
  unfolding folded is_in_each
  each_folded x nil e = sym e
  each_folded x (cons a ts) e =
      each_folded (x && in_term helds all g v a) ts (kept x (in_term helds all g v a) (among all v) e) ∙ and_assoc x (in_term helds all g v a) (in_each_of helds all g v ts) where
        kept : (x a b : Bool) → (x && b) ≡ x → ((x && a) && b) ≡ (x && a)
        kept true true b e = e
        kept true false b e = refl
        kept false a b e = refl

  each_within : (ts : Terms Word) → (among all v && in_each_of helds all g v ts) ≡ in_each_of helds all g v ts
  unfolding is_in_each
  each_within nil = twice (among all v) where
    twice : (a : Bool) → (a && a) ≡ a
    twice true = refl
    twice false = refl
  each_within (cons a ts) = moved (among all v) (in_term helds all g v a) (in_each_of helds all g v ts) (each_within ts) where
    moved : (x a b : Bool) → (x && b) ≡ b → (x && (a && b)) ≡ (a && b)
    moved x true b e = e
    moved true false b e = refl
    moved false false b e = refl

  odd_folded : (x : Bool) (ts : Terms Word) → folded helds all g v Either x ts ≡ differ x (in_odd_of helds all g v ts)
  unfolding folded is_in_odd
  odd_folded x nil = differ_nothing x
  odd_folded x (cons a ts) = odd_folded (differ x (in_term helds all g v a)) ts ∙ differ_assoc x (in_term helds all g v a) (in_odd_of helds all g v ts)

  itself : (a : Bool) → (a && a) ≡ a
  itself true = refl
  itself false = refl

  pub form_folded : (way : Way) (ts : Terms Word) → (way ≡ SomeOf → ⊥) → ended way (among all v) (folded helds all g v (joined_by way) (started way (among all v)) ts) ≡ in_form helds all g v way ts
  form_folded Everything ts n = refl
  form_folded Complement ts n = ap (λ b. among all v && not b) (union_folded false ts)
  form_folded SomeOf ts n = absurd (n refl)
  form_folded EachOf ts n = each_folded (among all v) ts (itself (among all v)) ∙ each_within ts
  form_folded OddOf ts n = odd_folded false ts
  form_folded RangeOf ts n = refl

-- ---- ways

pub not_some : (way : rust_way.Way) → (way ≡ ways.SomeOf → ⊥) → as_way way ≡ SomeOf → ⊥
not_some ways.SomeOf n e = n refl
not_some ways.Everything n e = let f : Everything ≡ SomeOf = e in cc
not_some ways.Complement n e = let f : Complement ≡ SomeOf = e in cc
not_some ways.EachOf n e = let f : EachOf ≡ SomeOf = e in cc
not_some ways.OddOf n e = let f : OddOf ≡ SomeOf = e in cc
not_some ways.RangeOf n e = let f : RangeOf ≡ SomeOf = e in cc
