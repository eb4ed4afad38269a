-- The values of expressions by numbers: what each entry holds, and what the words of a term mean. No other crate needs these words.
use Rattle.std.specs.Prelude.{◌≡◌, ℕ, Bool, false, ◌&&◌, ◌||◌, not, ◌==◌, List, ◌++◌, map, Option, slice_get}
use Rattle.std.specs.Option.{option_map_or}
use Rattle.cil_base.specs.Among.{among}
use Rattle.cil_sets.specs.declared.part.Joining.{Joining}
use Rattle.cil_sets.specs.declared.part.Joining.TheVariants.{Union, Both, Either, Without}
use Rattle.cil_syntax.specs.declared.term.Word.{Word}
use Rattle.cil_syntax.specs.Terms.{Term, Terms, nil, cons}
use Rattle.cil_known.specs.macros.Item.{all_words_in, words_in}
use Rattle.cil_attrs.specs.declared.evaluator.Held.{Held}
use Rattle.cil_attrs.specs.declared.evaluator.Held.TheVariants.{Nothing, Item, Set}
use Rattle.cil_attrs.specs.declared.way.Way as rust
use Rattle.cil_attrs.specs.declared.way.Way.TheVariants as ways
use Rattle.cil_syntax.specs.Expressions.{Complement, EachOf, Everything, OddOf, RangeOf, SomeOf, Way, by_way, differ, is_in, is_in_each, is_in_odd, is_in_some}

-- what an entry holds has the number
abbrev pub is_held : ℕ → Held → Bool
is_held v Nothing = false
is_held v (Item n) = n == v
is_held v (Set numbers) = among numbers v

-- what a word of this meaning stands for has the number
abbrev pub has_meant : List Held → ℕ → Option ℕ → Bool
has_meant helds v meaning = option_map_or (λ d. option_map_or (is_held v) (slice_get helds d) false) meaning false

-- the number is in an expression, in some of some, in each, in an odd number of them, where words have these meanings
module _ (helds : List Held) (all : List ℕ) (meaning : Word → Option ℕ) (v : ℕ) where
  abbrev pub in_term : Term Word → Bool
  in_term t = is_in (λ w. has_meant helds v (meaning w)) (among all v) (λ ts. false) t

  abbrev pub in_some_of : Terms Word → Bool
  in_some_of ts = is_in_some (λ w. has_meant helds v (meaning w)) (among all v) (λ ts. false) ts

  abbrev pub in_each_of : Terms Word → Bool
  in_each_of ts = is_in_each (λ w. has_meant helds v (meaning w)) (among all v) (λ ts. false) ts

  abbrev pub in_odd_of : Terms Word → Bool
  in_odd_of ts = is_in_odd (λ w. has_meant helds v (meaning w)) (among all v) (λ ts. false) ts

-- how Rust names the ways
abbrev pub as_way : rust.Way → Way
as_way ways.Everything = Everything
as_way ways.Complement = Complement
as_way ways.SomeOf = SomeOf
as_way ways.EachOf = EachOf
as_way ways.OddOf = OddOf
as_way ways.RangeOf = RangeOf

-- the value of a form, by how it joins its parts
abbrev pub in_form : List Held → List ℕ → (Word → Option ℕ) → ℕ → Way → Terms Word → Bool
in_form helds all meaning v way ts = by_way way (among all v) (in_some_of helds all meaning v ts) (in_each_of helds all meaning v ts) (in_odd_of helds all meaning v ts) false

-- what the parts of a form are joined to, how, and what becomes of them
abbrev pub started : Way → Bool → Bool
started EachOf all = all
started way all = false

abbrev pub joined_by : Way → Joining
joined_by EachOf = Both
joined_by OddOf = Either
joined_by way = Union

abbrev pub ended : Way → (all value : Bool) → Bool
ended Everything all value = all
ended Complement all value = all && not value
ended RangeOf all value = false
ended way all value = value

-- the meanings are those of the words of a term, and then others. Where no class permission is among the parts, these are what the
-- statement asks for
abbrev pub BeginWith : (Word → Option ℕ) → Term Word → List (Option ℕ) → List (Option ℕ) → Type 0
BeginWith meaning t row more = row ≡ map meaning (words_in t) ++ more

abbrev pub BeginWithAll : (Word → Option ℕ) → Terms Word → List (Option ℕ) → List (Option ℕ) → Type 0
BeginWithAll meaning ts row more = row ≡ map meaning (all_words_in ts) ++ more

-- two tests joined
abbrev pub test_by : Joining → Bool → Bool → Bool
test_by Union a b = a || b
test_by Both a b = a && b
test_by Either a b = differ a b
test_by Without a b = a && not b

-- some expressions joined one after another, from what is there on
module _ (helds : List Held) (all : List ℕ) (meaning : Word → Option ℕ) (v : ℕ) (how : Joining) where
  unfoldable pub folded : Bool → Terms Word → Bool
  folded x nil = x
  folded x (cons a ts) = folded (test_by how x (in_term helds all meaning v a)) ts
