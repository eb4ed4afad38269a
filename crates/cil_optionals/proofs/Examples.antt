-- Small policies with optionals, by the definitions: which are in force, what shows it, and what is counted. The label of an
-- optional declares nothing and is left out.
use Rattle.std.specs.Prelude.{◌&&◌, ◌||◌, ◌==◌, not, codes, Some, slice_get, None}
use Rattle.std.specs.List.{list_all}
use Rattle.std.proofs.Common.{◌≡◌, ℕ, zero, suc, ◌<◌, Bool, true, false, List, [], ◌∷◌, refl, sym, ◌∙◌, ap, subst, arith}
use Rattle.std.proofs.lemmas.Bool.Decides.{nat_tests}
use Rattle.cil_base.specs.Places.{none_some, some_same}
use Rattle.cil_syntax.specs.declared.kind.Keyword.{Keyword}
use Rattle.cil_syntax.specs.declared.kind.Keyword.TheVariants as keywords
use Rattle.cil_syntax.specs.declared.kind.Sign.{Sign}
use Rattle.cil_syntax.specs.declared.kind.Sign.TheVariants as signs
use Rattle.cil_syntax.specs.declared.term.Op.TheVariants as ops
use Rattle.cil_syntax.specs.Scopes.{ScopedWord}
use Rattle.cil_syntax.specs.Table.{entry_of}
use Rattle.cil_syntax.specs.Terms.{Leaf, Name, Form, Terms, nil, cons}
use Rattle.cil_base.specs.Among.{among}
use Rattle.cil_macros.specs.Item.{Item, OptSet, innermost, nobody, names_in, all_words_in}
use Rattle.cil_names.specs.Declarations.{nowhere}
use Rattle.cil_names.specs.Resolves.{Wanted, Word, all_wanted_in, found_in, has, has_permission, lists_permission, resolves, wanted_in, words_of}
use Rattle.cil_optionals.specs.declared.reason.Reason.TheVariants.{Missing, ParentOut}
use Rattle.cil_optionals.specs.Certificate.{Holds, IsRight, all_but, missing, no_more, one_more, parent_out}
use Rattle.cil_optionals.specs.Counts.{lookups, removals, removed_from}
use Rattle.cil_optionals.specs.Greatest.{IsGood, IsGreatest, OwnWord, Parent, is_optional_at}
use Rattle.cil_optionals.proofs.GreatestLemmas.{not_both, right_is_greatest}

-- ---- statements

abbrev word : Sign → List ℕ → ScopedWord
word sign bytes = record { at = nowhere; bytes = bytes; sign = sign; scope = [] ∷ [] }

abbrev says : Keyword → List ℕ → Terms ScopedWord → Item
says k round args = record { keyword = k; at = nowhere; space = []; args = args; round = round; branch = None }

abbrev optional : Keyword
optional = keywords.Optional

abbrev type_ : List ℕ → List ℕ → Item
type_ round name = says keywords.Type_ round (cons (Name nowhere name) nil)

-- `(class file (open read))`
abbrev file : Item
file =
    says keywords.Class []
    (cons (Name nowhere (codes "file")) (cons (Form nowhere ops.Listed (cons (Name nowhere (codes "open")) (cons (Name nowhere (codes "read")) nil))) nil))

-- `(allow SOURCE TARGET (file (read)))`
abbrev allow : List ℕ → List ℕ → List ℕ → Item
allow round source target =
    says keywords.Allow round
    (cons (Leaf (word signs.Types source)) (cons (Leaf (word signs.Types target))
    (cons (Form nowhere ops.ClassPermissions (cons (Leaf (word signs.Classes (codes "file"))) (cons (Form nowhere ops.Union (cons (Leaf (word signs.Permission (codes "read"))) nil)) nil))) nil)))

-- a word of an allow that is a type
abbrev type_word : List ℕ → Wanted
type_word name = Word (word signs.Types name)

-- ---- all words of own statements

module _ (xs : List Item) (s : OptSet) where
  abbrev has_words : Item → Bool
  has_words x = list_all (resolves xs s) (words_of x)

every : {X : Type 0} (p : X → Bool) (xs : List X) (i : ℕ) (x : X) → list_all p xs ≡ true → slice_get xs i ≡ Some x → p x ≡ true
every p [] i x all at = absurd (none_some x at)
every p (y ∷ ys) zero x all at = first_of (p y) (list_all p ys) (p x) (ap p (some_same y x at)) all where
  first_of : (a b c : Bool) → a ≡ c → (a && b) ≡ true → c ≡ true
  first_of true b c e all = sym e
  first_of false b c e all = absurd (not_both false all refl)
every p (y ∷ ys) (suc i) x all at = every p ys i x (rest_of (p y) (list_all p ys) all) at where
  rest_of : (a b : Bool) → (a && b) ≡ true → b ≡ true
  rest_of true b all = all
  rest_of false b all = absurd (not_both false all refl)

words_resolve : (xs : List Item) (s : OptSet) → list_all (has_words xs s) xs ≡ true → (o i j : ℕ) (w : Wanted) → OwnWord xs o i j w → resolves xs s w ≡ true
words_resolve xs s all o i j w own = every (resolves xs s) (words_of own.statement) j w (every (has_words xs s) xs i own.statement all own.is_there) own.word

-- the set without any optional is good
nobody_good : (xs : List Item) → IsGood xs nobody
nobody_good xs = record {
  optionals = λ o h. absurd (not_both false h refl);
  parents = λ o p h parent. absurd (not_both false h refl);
  words = λ o i j w h own. absurd (not_both false h refl);
}

-- none of two numbers is a greater one
none_of_two : (a b n : ℕ) → a < n → b < n → among (a ∷ b ∷ []) n ≡ false
none_of_two a b n l m = or_none (a == n) (b == n) (let e : (a == n) ≡ false = grind (arith, nat_tests) in e) (let e : (b == n) ≡ false = grind (arith, nat_tests) in e) where
  or_none : (x y : Bool) → x ≡ false → y ≡ false → (x || (y || false)) ≡ false
  or_none x y e f = (λ i. e i || (f i || false))

-- a word of a statement that is known
known_word : (xs : List Item) (x : Item) (o i j : ℕ) (v w : Wanted) → slice_get xs i ≡ Some x → slice_get (words_of x) j ≡ Some v → OwnWord xs o i j w → w ≡ v
known_word xs x o i j v w there is own =
    let same : own.statement ≡ x = some_same own.statement x (sym own.is_there ∙ there) in
    some_same w v (sym own.word ∙ ap (λ (y : Item). slice_get (words_of y) j) same ∙ is)

-- the optionals, by their numbers, less these
abbrev less : List ℕ → List ℕ → OptSet
less optionals out o = among optionals o && not (among out o)

rest : (xs : List Item) (optionals out : List ℕ) → ((o : ℕ) → is_optional_at xs o ≡ among optionals o) → all_but xs out ≡ less optionals out
rest xs optionals out each = λ i o. each o i && not (among out o)

-- ---- `(optional A (allow a x ..))(optional B (type x)(allow x nobody ..))`: B is out for `nobody`, and then A for `x`

chain : List Item
chain =
    file ∷ type_ [] (codes "a") ∷ says optional [] nil ∷ allow (2 ∷ []) (codes "a") (codes "x") ∷ says optional [] nil ∷ type_ (4 ∷ []) (codes "x")
    ∷ allow (4 ∷ []) (codes "x") (codes "nobody") ∷ []

chain_optionals : (o : ℕ) → is_optional_at chain o ≡ among (4 ∷ 2 ∷ []) o
unfolding chain
chain_optionals zero = refl
chain_optionals (suc zero) = refl
chain_optionals (suc (suc zero)) = refl
chain_optionals (suc (suc (suc zero))) = refl
chain_optionals (suc (suc (suc (suc zero)))) = refl
chain_optionals (suc (suc (suc (suc (suc zero))))) = refl
chain_optionals (suc (suc (suc (suc (suc (suc zero)))))) = refl
chain_optionals (suc (suc (suc (suc (suc (suc (suc o))))))) = sym (none_of_two 4 2 (suc (suc (suc (suc (suc (suc (suc o))))))) (omega arith) (omega arith))

lacks_nobody : resolves chain (all_but chain []) (type_word (codes "nobody")) ≡ false
unfolding chain has found_in entry_of
lacks_nobody = subst (λ s. resolves chain s (type_word (codes "nobody")) ≡ false) (sym (rest chain (4 ∷ 2 ∷ []) [] chain_optionals)) refl

lacks_x : resolves chain (all_but chain (4 ∷ [])) (type_word (codes "x")) ≡ false
unfolding chain has found_in entry_of
lacks_x = subst (λ s. resolves chain s (type_word (codes "x")) ≡ false) (sym (rest chain (4 ∷ 2 ∷ []) (4 ∷ []) chain_optionals)) refl

has_x : resolves chain (all_but chain []) (type_word (codes "x")) ≡ true
unfolding chain has found_in entry_of
has_x = subst (λ s. resolves chain s (type_word (codes "x")) ≡ true) (sym (rest chain (4 ∷ 2 ∷ []) [] chain_optionals)) refl

own_nobody : OwnWord chain 4 6 1 (type_word (codes "nobody"))
unfolding chain all_wanted_in wanted_in
own_nobody = record { statement = allow (4 ∷ []) (codes "x") (codes "nobody"); is_there = refl; own = refl; word = refl }

own_x : OwnWord chain 2 3 1 (type_word (codes "x"))
unfolding chain all_wanted_in wanted_in
own_x = record { statement = allow (2 ∷ []) (codes "a") (codes "x"); is_there = refl; own = refl; word = refl }

chain_right : IsRight chain nobody (Missing 4 6 1 ∷ Missing 2 3 1 ∷ [])
chain_right = record {
  good = nobody_good chain;
  order =
      one_more [] (Missing 4 6 1) (Missing 2 3 1 ∷ []) refl (missing 4 6 1 (type_word (codes "nobody")) own_nobody lacks_nobody)
      (one_more (4 ∷ []) (Missing 2 3 1) [] refl (missing 2 3 1 (type_word (codes "x")) own_x lacks_x) (no_more (2 ∷ 4 ∷ [])));
  each = chain_optionals;
  apart = λ o. refl;
}

-- both are removed
chain_removals : removals chain nobody ≡ 2
unfolding chain removed_from
chain_removals = refl

-- the type `x` is left out, and so are both words that could name it
chain_lookups : lookups chain nobody ≡ 3
unfolding chain lookups has entry_of all_wanted_in wanted_in all_words_in names_in
chain_lookups = refl

chain_greatest : IsGreatest chain nobody
chain_greatest = right_is_greatest chain nobody (Missing 4 6 1 ∷ Missing 2 3 1 ∷ []) chain_right

-- with the two reasons exchanged the choice is not right: `x` is there as long as B is
not_first : Holds chain [] (Missing 2 3 1) → ⊥
unfolding chain all_wanted_in wanted_in
not_first (missing o i j w own fails) =
    not_both _ has_x (subst (λ v. resolves chain (all_but chain []) v ≡ false) (known_word chain (allow (2 ∷ []) (codes "a") (codes "x")) o i j _ w refl refl own) fails)

chain_exchanged : IsRight chain nobody (Missing 2 3 1 ∷ Missing 4 6 1 ∷ []) → ⊥
chain_exchanged right = elim right.order [ one_more out r rs fresh holds order ↦ not_first holds ]

-- ---- `(optional A (type x)(allow x y ..))(optional B (type y)(allow y x ..))`: both are in force

mutual_two : List Item
mutual_two =
    file ∷ says optional [] nil ∷ type_ (1 ∷ []) (codes "x") ∷ allow (1 ∷ []) (codes "x") (codes "y") ∷ says optional [] nil ∷ type_ (4 ∷ []) (codes "y")
    ∷ allow (4 ∷ []) (codes "y") (codes "x") ∷ []

both : OptSet
both = among (4 ∷ 1 ∷ [])

two_optionals : (o : ℕ) → is_optional_at mutual_two o ≡ among (4 ∷ 1 ∷ []) o
unfolding mutual_two
two_optionals zero = refl
two_optionals (suc zero) = refl
two_optionals (suc (suc zero)) = refl
two_optionals (suc (suc (suc zero))) = refl
two_optionals (suc (suc (suc (suc zero)))) = refl
two_optionals (suc (suc (suc (suc (suc zero))))) = refl
two_optionals (suc (suc (suc (suc (suc (suc zero)))))) = refl
two_optionals (suc (suc (suc (suc (suc (suc (suc o))))))) = sym (none_of_two 4 1 (suc (suc (suc (suc (suc (suc (suc o))))))) (omega arith) (omega arith))

stand_in_none : (o p : ℕ) → among (4 ∷ 1 ∷ []) o ≡ true → Parent mutual_two o p → ⊥
unfolding mutual_two
stand_in_none zero p h parent = not_both false h refl
stand_in_none (suc zero) p h parent = none_some p (ap innermost (some_same _ _ parent.is_there) ∙ parent.inside)
stand_in_none (suc (suc zero)) p h parent = not_both false h refl
stand_in_none (suc (suc (suc zero))) p h parent = not_both false h refl
stand_in_none (suc (suc (suc (suc zero)))) p h parent = none_some p (ap innermost (some_same _ _ parent.is_there) ∙ parent.inside)
stand_in_none (suc (suc (suc (suc (suc zero))))) p h parent = not_both false h refl
stand_in_none (suc (suc (suc (suc (suc (suc zero)))))) p h parent = not_both false h refl
stand_in_none (suc (suc (suc (suc (suc (suc (suc o))))))) p h parent = not_both _ h (none_of_two 4 1 (suc (suc (suc (suc (suc (suc (suc o))))))) (omega arith) (omega arith))

have_words : list_all (has_words mutual_two both) mutual_two ≡ true
unfolding mutual_two both has found_in entry_of all_wanted_in wanted_in has_permission lists_permission all_words_in names_in
have_words = refl

both_right : IsRight mutual_two both []
unfolding both
both_right = record {
  good = record {
    optionals = λ o h. two_optionals o ∙ h;
    parents = λ o p h parent. absurd (stand_in_none o p h parent);
    words = λ o i j w h own. words_resolve mutual_two both have_words o i j w own;
  };
  order = no_more [];
  each = λ o. two_optionals o ∙ alone (among (4 ∷ 1 ∷ []) o);
  apart = λ o. none (among (4 ∷ 1 ∷ []) o);
} where
  alone : (b : Bool) → b ≡ (b || false)
  alone true = refl
  alone false = refl

  none : (b : Bool) → (b && false) ≡ false
  none true = refl
  none false = refl

both_removals : removals mutual_two both ≡ 0
unfolding mutual_two both removed_from
both_removals = refl

both_lookups : lookups mutual_two both ≡ 0
unfolding mutual_two both lookups has entry_of all_wanted_in wanted_in all_words_in names_in
both_lookups = refl

both_greatest : IsGreatest mutual_two both
both_greatest = right_is_greatest mutual_two both [] both_right

has_y : resolves mutual_two (all_but mutual_two []) (type_word (codes "y")) ≡ true
unfolding mutual_two has found_in entry_of
has_y = subst (λ s. resolves mutual_two s (type_word (codes "y")) ≡ true) (sym (rest mutual_two (4 ∷ 1 ∷ []) [] two_optionals)) refl

not_for_y : Holds mutual_two [] (Missing 1 3 1) → ⊥
unfolding mutual_two all_wanted_in wanted_in
not_for_y (missing o i j w own fails) =
    not_both _ has_y (subst (λ v. resolves mutual_two (all_but mutual_two []) v ≡ false) (known_word mutual_two (allow (1 ∷ []) (codes "x") (codes "y")) o i j _ w refl refl own) fails)

-- to leave out A for `y`, and then B for `x`, is not right
none_in_force : IsRight mutual_two nobody (Missing 1 3 1 ∷ Missing 4 6 1 ∷ []) → ⊥
none_in_force right = elim right.order [ one_more out r rs fresh holds order ↦ not_for_y holds ]

-- ---- `(type a)(optional A (allow a nobody ..)(optional B (type x)))`: A is out for `nobody`, and B with it

nested : List Item
nested =
    file ∷ type_ [] (codes "a") ∷ says optional [] nil ∷ allow (2 ∷ []) (codes "a") (codes "nobody") ∷ says optional (2 ∷ []) nil
    ∷ type_ (4 ∷ 2 ∷ []) (codes "x") ∷ []

nested_optionals : (o : ℕ) → is_optional_at nested o ≡ among (2 ∷ 4 ∷ []) o
unfolding nested
nested_optionals zero = refl
nested_optionals (suc zero) = refl
nested_optionals (suc (suc zero)) = refl
nested_optionals (suc (suc (suc zero))) = refl
nested_optionals (suc (suc (suc (suc zero)))) = refl
nested_optionals (suc (suc (suc (suc (suc zero))))) = refl
nested_optionals (suc (suc (suc (suc (suc (suc o)))))) = sym (none_of_two 2 4 (suc (suc (suc (suc (suc (suc o)))))) (omega arith) (omega arith))

nested_lacks : resolves nested (all_but nested []) (type_word (codes "nobody")) ≡ false
unfolding nested has found_in entry_of
nested_lacks = subst (λ s. resolves nested s (type_word (codes "nobody")) ≡ false) (sym (rest nested (2 ∷ 4 ∷ []) [] nested_optionals)) refl

nested_own : OwnWord nested 2 3 1 (type_word (codes "nobody"))
unfolding nested all_wanted_in wanted_in
nested_own = record { statement = allow (2 ∷ []) (codes "a") (codes "nobody"); is_there = refl; own = refl; word = refl }

nested_parent : Parent nested 4 2
unfolding nested
nested_parent = record { optional = says optional (2 ∷ []) nil; is_there = refl; inside = refl }

nested_right : IsRight nested nobody (Missing 2 3 1 ∷ ParentOut 4 ∷ [])
nested_right = record {
  good = nobody_good nested;
  order =
      one_more [] (Missing 2 3 1) (ParentOut 4 ∷ []) refl (missing 2 3 1 (type_word (codes "nobody")) nested_own nested_lacks)
      (one_more (2 ∷ []) (ParentOut 4) [] refl (parent_out 4 2 nested_parent refl) (no_more (4 ∷ 2 ∷ [])));
  each = nested_optionals;
  apart = λ o. refl;
}

nested_removals : removals nested nobody ≡ 2
unfolding nested removed_from
nested_removals = refl

-- the type `x` is left out; `a` is there, and there is nothing that `nobody` could name
nested_lookups : lookups nested nobody ≡ 1
unfolding nested lookups has entry_of all_wanted_in wanted_in all_words_in names_in
nested_lookups = refl
