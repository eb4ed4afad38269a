-- Sets that get what one statement after another gives them.
use Rattle.std.proofs.Common.{◌≡◌, ℕ, ◌+◌, ◌<◌, Bool, true, false, ◌&&◌, ◌||◌, ◌==◌, List, [], ◌∷◌, length, take, get_or, refl, sym, ◌∙◌, ap, subst, inl, inr, arith}
use Rattle.std.specs.Prelude.{Contains, Option, Some, None, map, set, slice_get}
use Rattle.std.specs.List.{list_any}
use Rattle.std.specs.Option.{option_map_or}
use Rattle.std.proofs.lemmas.Bool.{cases_Bool}
use Rattle.std.proofs.lemmas.Bool.Decides.{nat_tests}
use Rattle.std.proofs.lemmas.List.{append-nil, length-set}
use Rattle.std.proofs.lemmas.List.Folds.{list_any_more}
use Rattle.cil_base.specs.Lists.{contains_here, contains_later}
use Rattle.cil_base.specs.MadeLists.{contains_map}
use Rattle.cil_base.specs.Places.{contains_at, get_set_other, get_set_same, in_range, in_take, is_there, there_as}
use Rattle.cil_syntax.specs.declared.term.Word.{Word}
use Rattle.cil_known.specs.macros.Item.{words_in}
use Rattle.cil_known.proofs.FamilyLemmas.{same_tests}
use Rattle.cil_base.specs.Among.{among}
use Rattle.cil_attrs.specs.declared.evaluator.Held.{Held}
use Rattle.cil_attrs.specs.declared.evaluator.Held.TheVariants.{Nothing, Set}
use Rattle.cil_attrs.specs.declared.making.Given.{Given}
use Rattle.cil_attrs.specs.Evaluated.{BeginWith, has_meant, in_term, is_held}
use Rattle.cil_attrs.specs.Made.{AreInOrder, AreSetsAt, HaveMeanings, IsGiven, IsSetAt, LeavesOut, held_at, is_made_by, said}

or_assoc : (a b c : Bool) → ((a || b) || c) ≡ (a || (b || c))
or_assoc true b c = refl
or_assoc false b c = refl

or_none : (a : Bool) → a ≡ (a || false)
or_none true = refl
or_none false = refl

same_number : (a b : ℕ) → (a == b) ≡ true → a ≡ b
same_number a b e = grind (arith, nat_tests)

number_same : (a b : ℕ) → a ≡ b → (a == b) ≡ true
number_same a b e = grind (arith, nat_tests)

other_number : (a b : ℕ) → (a == b) ≡ false → b ≡ a → ⊥
other_number a b e f = grind (arith, nat_tests)

same_any : {X : Type 0} (p q : X → Bool) (ys : List X) → ((y : X) → Contains ys y → p y ≡ q y) → list_any p ys ≡ list_any q ys
same_any p q [] f = refl
same_any p q (y ∷ ys) f = ap (λ b. b || list_any p ys) (f y (contains_here y ys)) ∙ ap (λ b. q y || b) (same_any p q ys (λ z c. f z (contains_later z y ys c)))

-- an expression has the same value where only an entry that it leaves out holds something else
module _ (all : List ℕ) (g : Given → Word → Option ℕ) (old new : List Held) (u : ℕ) (others : (d : ℕ) → (d ≡ u → ⊥) → slice_get new d ≡ slice_get old d) where
  pub same_value : (x : Given) → x.words.now ≡ map (g x) (words_in (said x)) → LeavesOut x u → (v : ℕ) → in_term new all (g x) v (said x) ≡ in_term old all (g x) v (said x)
  same_value x meanings leaves v = same_tests (λ w. has_meant new v (g x w)) (λ w. has_meant old v (g x w)) (among all v) (λ ts. false) (said x)
      (λ w c. by (g x w) (λ e. leaves (subst (λ ws. Contains ws (Some u)) (sym meanings) (subst (Contains (map (g x) (words_in (said x)))) e (contains_map (g x) (words_in (said x)) w c))))) where
        by : (r : Option ℕ) → (r ≡ Some u → ⊥) → has_meant new v r ≡ has_meant old v r
        by None n = refl
        by (Some d) n = ap (λ h. option_map_or (is_held v) h false) (others d (λ e. n (ap Some e)))

-- ---- one statement more

module _ (all : List ℕ) (g : Given → Word → Option ℕ) (xs : List Given) (meanings : HaveMeanings g xs) (order : AreInOrder xs) (i : ℕ) (y : Given) (within : i < length xs) (is : y ≡ get_or xs i y)
    (first old new : List Held) (given : IsGiven all old new y) where
  at_i : slice_get xs i ≡ Some y
  at_i = there_as xs i y within is

  -- those in front leave its set out
  leaves_out : (x : Given) → Contains (take i xs) x → LeavesOut x y.set
  leaves_out = in_take (λ x. LeavesOut x y.set) i xs (λ k d before l. order k i (get_or xs k d) y (is_there xs k d l) at_i (omega (arith, before)))

  taken_there : (x : Given) → Contains (take i xs) x → Contains xs x
  taken_there = in_take (Contains xs) i xs (λ k d before l. contains_at xs k (get_or xs k d) d l refl)

  same_made : (d v : ℕ) → list_any (is_made_by g new all d v) (take i xs) ≡ list_any (is_made_by g old all d v) (take i xs)
  same_made d v = same_any (is_made_by g new all d v) (is_made_by g old all d v) (take i xs)
      (λ x c. ap (λ b. (x.set == d) && b) (same_value all g old new y.set given.others x (meanings x (taken_there x c)) (leaves_out x c) v))

  -- what the statement gives, by what is held after it
  its_value : (v : ℕ) → in_term (set old y.set Nothing) all (g y) v (said y) ≡ in_term new all (g y) v (said y)
  its_value v = sym (same_value all g (set old y.set Nothing) new y.set (λ d n. given.others d n ∙ sym (get_set_other old y.set d Nothing n)) y (meanings y (contains_at xs i y y within is)) (order i i y y at_i at_i (omega arith)) v)

  made_more : (d v : ℕ) → list_any (is_made_by g new all d v) (take (i + 1) xs) ≡ (list_any (is_made_by g old all d v) (take i xs) || is_made_by g new all d v y)
  made_more d v =
      list_any_more (is_made_by g new all d v) xs i y within
      ∙ ap (λ b. b || is_made_by g new all d v (get_or xs i y)) (same_made d v)
      ∙ ap (λ z. list_any (is_made_by g old all d v) (take i xs) || is_made_by g new all d v z) (sym is)

  pub one_made : ((d v : ℕ) → held_at old d v ≡ (held_at first d v || list_any (is_made_by g old all d v) (take i xs)))
      → (d v : ℕ) → held_at new d v ≡ (held_at first d v || list_any (is_made_by g new all d v) (take (i + 1) xs))
  one_made so d v = elim (cases_Bool (y.set == d)) [
    | inl t ↦ by_set t ∙ or_assoc (held_at first d v) (list_any (is_made_by g old all d v) (take i xs)) (is_made_by g new all d v y) ∙ ap (λ b. held_at first d v || b) (sym (made_more d v))
    | inr f ↦ by_other f ∙ or_assoc (held_at first d v) (list_any (is_made_by g old all d v) (take i xs)) (is_made_by g new all d v y) ∙ ap (λ b. held_at first d v || b) (sym (made_more d v))
  ] where
    by_set : (y.set == d) ≡ true → held_at new d v ≡ ((held_at first d v || list_any (is_made_by g old all d v) (take i xs)) || is_made_by g new all d v y)
    by_set t =
        let e : y.set ≡ d = same_number y.set d t in
        ap (λ u. held_at new u v) (sym e)
        ∙ given.added (g y) [] (meanings y (contains_at xs i y y within is) ∙ sym (append-nil (map (g y) (words_in (said y))))) v
        ∙ ap (λ u. held_at old u v || in_term (set old y.set Nothing) all (g y) v (said y)) e
        ∙ ap (λ b. b || in_term (set old y.set Nothing) all (g y) v (said y)) (so d v)
        ∙ ap (λ b. (held_at first d v || list_any (is_made_by g old all d v) (take i xs)) || b) (its_value v)
        ∙ ap (λ b. (held_at first d v || list_any (is_made_by g old all d v) (take i xs)) || (b && in_term new all (g y) v (said y))) (sym t)

    by_other : (y.set == d) ≡ false → held_at new d v ≡ ((held_at first d v || list_any (is_made_by g old all d v) (take i xs)) || is_made_by g new all d v y)
    by_other f =
        ap (λ h. option_map_or (is_held v) h false) (given.others d (other_number y.set d f))
        ∙ so d v
        ∙ or_none (held_at first d v || list_any (is_made_by g old all d v) (take i xs))
        ∙ ap (λ b. (held_at first d v || list_any (is_made_by g old all d v) (take i xs)) || (b && in_term new all (g y) v (said y))) (sym f)

-- what is a set stays one
pub sets_stay : (all : List ℕ) (xs : List Given) (old new : List Held) (y : Given) → IsGiven all old new y → AreSetsAt old xs → AreSetsAt new xs
sets_stay all xs old new y given are x c = elim (cases_Bool (y.set == x.set)) [
  | inl t ↦ subst (IsSetAt new) (same_number y.set x.set t) given.is_set
  | inr f ↦ let (members, at) = are x c in (members, given.others x.set (other_number y.set x.set f) ∙ at)
]

-- at first nothing was given, and at the end all
pub none_made : (all : List ℕ) (g : Given → Word → Option ℕ) (held : List Held) (d v : ℕ) → held_at held d v ≡ (held_at held d v || list_any (is_made_by g held all d v) [])
none_made all g held d v = or_none (held_at held d v)

-- ---- one statement

pub is_given : (all : List ℕ) (old middle new : List Held) (x : Given) (before after : List ℕ) → slice_get old x.set ≡ Some (Set before) → middle ≡ set old x.set Nothing
    → new ≡ set middle x.set (Set after)
    → ((m : Word → Option ℕ) (more : List (Option ℕ)) → BeginWith m (said x) x.words.now more → (v : ℕ) → among after v ≡ (among before v || in_term middle all m v (said x)))
    → IsGiven all old new x
is_given all old middle new x before after at is_middle is_new added =
    let len_middle : length middle ≡ length old = ap length is_middle ∙ length-set old x.set Nothing in
    let len_new : length new ≡ length middle = ap length is_new ∙ length-set middle x.set (Set after) in
    let within : x.set < length old = in_range old x.set (Set before) at in
    let within_middle : x.set < length middle = omega (arith, within, len_middle) in
    let there : slice_get new x.set ≡ Some (Set after) = ap (λ hs. slice_get hs x.set) is_new ∙ get_set_same middle x.set (Set after) within_middle in
    record {
      len = len_new ∙ len_middle;
      is_set = (after, there);
      others = λ d n. ap (λ hs. slice_get hs d) is_new ∙ get_set_other middle x.set d (Set after) n ∙ ap (λ hs. slice_get hs d) is_middle ∙ get_set_other old x.set d Nothing n;
      added = λ m more begin v.
          ap (λ h. option_map_or (is_held v) h false) there
          ∙ added m more begin v
          ∙ ap (λ h. option_map_or (is_held v) h false || in_term middle all m v (said x)) (sym at)
          ∙ ap (λ hs. held_at old x.set v || in_term hs all m v (said x)) is_middle;
    }
