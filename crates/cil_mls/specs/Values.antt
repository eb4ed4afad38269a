-- The categories of a set expression, by what its words stand for. CIL Reference Guide, "Expressions" and "categoryset".
use Rattle.std.specs.Prelude.{◌≡◌, ℕ, ◌<◌, Bool, true, false, ◌==◌, ◌&&◌, ◌||◌, ltb, List, Option}
use Rattle.std.proofs.Common.{get_or}
use Rattle.std.specs.Option.{option_map_or}
use Rattle.cil_syntax.specs.declared.term.Term as rust
use Rattle.cil_syntax.specs.declared.term.Word.{Word}
use Rattle.cil_syntax.specs.Said.{all_said, said_of}
use Rattle.cil_syntax.specs.Expressions.{Way, Complement, EachOf, Everything, OddOf, RangeOf, SomeOf, by_way, is_in, is_in_each, is_in_odd, is_in_some}
use Rattle.cil_syntax.specs.Terms.{Term, Leaf, Name, Form, Terms, nil, cons}
use Rattle.cil_mls.specs.declared.expression.Held.{Held}
use Rattle.cil_mls.specs.declared.expression.Held.TheVariants.{Nothing, Category, Set}
use Rattle.cil_mls.specs.declared.expression.How.{How}
use Rattle.cil_mls.specs.declared.expression.How.TheVariants as hows
use Rattle.cil_mls.specs.declared.expression.Join.{Join}
use Rattle.cil_mls.specs.declared.expression.Join.TheVariants as joins
use Rattle.cil_mls.specs.declared.expression.Valued.{Valued}
use Rattle.cil_mls.specs.Bits.{differ, in_words, is_between}

-- ---- words

-- the category is among what a name stands for
abbrev pub is_held : ℕ → Held → Bool
is_held c Nothing = false
is_held c (Category place) = place == c
is_held c (Set set) = in_words set.words c

-- the place of a category is below 1,024
abbrev pub IsFew : Held → Type 0
IsFew Nothing = Unit {0}
IsFew (Category place) = place < 1024
IsFew (Set set) = Unit {0}

-- what a word of this meaning stands for
abbrev pub meant_held : List Held → Option ℕ → Held
meant_held helds meaning = option_map_or (λ d. get_or helds d Nothing) meaning Nothing

-- from one category to another
abbrev pub held_between : Held → Held → ℕ → Bool
held_between (Category low) (Category high) c = is_between low high c
held_between low high c = false

-- ---- expressions

-- two words are from the one category to the other
abbrev pub in_span : {L : Type 0} → List Held → (L → Option ℕ) → ℕ → Terms L → Bool
in_span helds meaning c nil = false
in_span helds meaning c (cons a nil) = false
in_span helds meaning c (cons (Name at x) (cons b rest)) = false
in_span helds meaning c (cons (Form at op ts) (cons b rest)) = false
in_span helds meaning c (cons (Leaf v) (cons (Name at x) rest)) = false
in_span helds meaning c (cons (Leaf v) (cons (Form at op ts) rest)) = false
in_span helds meaning c (cons (Leaf v) (cons (Leaf w) nil)) = held_between (meant_held helds (meaning v)) (meant_held helds (meaning w)) c
in_span helds meaning c (cons (Leaf v) (cons (Leaf w) (cons d rest))) = false

module _ {L : Type 0} (helds : List Held) (count : ℕ) (meaning : L → Option ℕ) (c : ℕ) where
  abbrev pub has_word : L → Bool
  has_word w = is_held c (meant_held helds (meaning w))

  -- the category is in an expression
  abbrev pub in_term : Term L → Bool
  in_term t = is_in has_word (ltb c count) (in_span helds meaning c) t

  -- in what some expressions are joined to
  abbrev pub in_parts : Join → Terms L → Bool
  in_parts joins.Union ts = is_in_some has_word (ltb c count) (in_span helds meaning c) ts
  in_parts joins.Common ts = is_in_each has_word (ltb c count) (in_span helds meaning c) ts
  in_parts joins.Apart ts = is_in_odd has_word (ltb c count) (in_span helds meaning c) ts

-- ---- how it is found

abbrev pub join_of : Join → Bool → Bool → Bool
join_of joins.Union a b = a || b
join_of joins.Common a b = a && b
join_of joins.Apart a b = differ a b

-- what no set is joined to, before the categories that there are not go out
abbrev pub start_of : Join → Bool
start_of joins.Union = false
start_of joins.Common = true
start_of joins.Apart = false

abbrev pub end_of : Join → (among value : Bool) → Bool
end_of joins.Common among value = value && among
end_of join among value = value

-- how a form of some way is made of its parts
abbrev pub way_as : How → Way
way_as hows.Everything = Everything
way_as hows.Others = Complement
way_as (hows.Joined joins.Union) = SomeOf
way_as (hows.Joined joins.Common) = EachOf
way_as (hows.Joined joins.Apart) = OddOf
way_as hows.Between = RangeOf

module _ (helds : List Held) (count : ℕ) (meaning : Word → Option ℕ) (more : List (Option ℕ)) where
  -- the value is that of the expression, and the meanings behind its words are left
  pub record IsValue (t : Term Word) (r : Valued) : Type 0 where
    pub rest : r.rest.now ≡ more
    pub value : (c : ℕ) → c < 1024 → in_words r.value.words c ≡ in_term helds count meaning c t

  pub record AreJoined (join : Join) (ts : Terms Word) (r : Valued) : Type 0 where
    pub rest : r.rest.now ≡ more
    pub value : (c : ℕ) → c < 1024 → in_words r.value.words c ≡ in_parts helds count meaning c join ts

  pub record IsFormed (how : How) (ts : Terms Word) (r : Valued) : Type 0 where
    pub rest : r.rest.now ≡ more
    pub value : (c : ℕ) → c < 1024
        → in_words r.value.words c
        ≡ by_way (way_as how) (ltb c count) (in_parts helds count meaning c joins.Union ts) (in_parts helds count meaning c joins.Common ts) (in_parts helds count meaning c joins.Apart ts) (in_span helds meaning c ts)

-- ---- two words

-- the term is a word, of whatever module
abbrev pub IsLeaf : rust.Term → Type 0
IsLeaf t = (m : ℕ) → (w : Word) × (said_of m t ≡ Leaf w)

abbrev pub IsNoLeaf : rust.Term → Type 0
IsNoLeaf t = (m : ℕ) (w : Word) → said_of m t ≡ Leaf w → ⊥

abbrev pub AreTwoWords : List rust.Term → Type 0
AreTwoWords ts = (m : ℕ) → (v : Word) × (w : Word) × (all_said m ts ≡ cons (Leaf v) (cons (Leaf w) nil))

abbrev pub AreNotTwo : List rust.Term → Type 0
AreNotTwo ts = (m : ℕ) (v w : Word) → all_said m ts ≡ cons (Leaf v) (cons (Leaf w) nil) → ⊥
