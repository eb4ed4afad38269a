-- Sets of categories that get what one declaration after another says.
use Rattle.std.proofs.Common.{◌≡◌, ℕ, zero, suc, ◌+◌, ◌<◌, ◌≤◌, Bool, true, false, ◌&&◌, ◌||◌, ◌==◌, List, [], ◌∷◌, length, take, get_or, refl, sym, ◌∙◌, ap, subst, inl, inr, arith}
use Rattle.std.specs.Prelude.{Contains, Option, Some, None, slice_get}
use Rattle.std.specs.Prelude.{set as changed}
use Rattle.std.specs.List.{list_any}
use Rattle.std.proofs.lemmas.Bool.{cases_Bool}
use Rattle.std.proofs.lemmas.Bool.Decides.{nat_tests}
use Rattle.std.proofs.lemmas.List.{get_or-set_other, get_or-set_same, length-set, take_all}
use Rattle.std.proofs.lemmas.List.Folds.{list_any_more}
use Rattle.cil_base.specs.Lists.{contains_here, contains_later, contains_none}
use Rattle.cil_base.specs.Places.{in_take, is_there, there_as}
use Rattle.cil_syntax.specs.declared.kind.Keyword.{Keyword}
use Rattle.cil_syntax.specs.declared.kind.Keyword.TheVariants as keywords
use Rattle.cil_syntax.specs.declared.kind.Kind.TheVariants as kinds
use Rattle.cil_syntax.specs.Scopes.{ScopedWord}
use Rattle.cil_syntax.specs.Table.{entry_of}
use Rattle.cil_macros.specs.Items.{Kept, item_at}
use Rattle.cil_names.specs.Resolves.{is_mapping}
use Rattle.cil_known.specs.declared.known.Known.{Known}
use Rattle.cil_known.specs.Known.{meant_in}
use Rattle.cil_mls.specs.declared.categories.Categories.{Categories}
use Rattle.cil_mls.specs.declared.expression.Held.{Held}
use Rattle.cil_mls.specs.declared.expression.Held.TheVariants.{Nothing, Category, Set}
use Rattle.cil_mls.specs.Bits.{in_words}
use Rattle.cil_mls.specs.Values.{is_held, meant_held}
use Rattle.cil_levels.specs.declared.definitions.Definition.{Definition}
use Rattle.cil_levels.specs.Made.{AreInOrder, AreMade, CanBeMade, IsGained, IsGivenMore, IsKept, IsSetIn, LeavesOut, held_at, is_made_by, says_of}
use Rattle.cil_levels.proofs.TermLemmas.{same_second}

or_assoc : (a b c : Bool) → ((a || b) || c) ≡ (a || (b || c))
or_assoc true b c = refl
or_assoc false b c = refl

or_none : (a : Bool) → a ≡ (a || false)
or_none true = refl
or_none false = refl

same_number : (a b : ℕ) → (a == b) ≡ true → a ≡ b
same_number a b e = grind (arith, nat_tests)

other_number : (a b : ℕ) → (a == b) ≡ false → b ≡ a → ⊥
other_number a b e f = grind (arith, nat_tests)

pub same_any : {X : Type 0} (p q : X → Bool) (ys : List X) → ((y : X) → Contains ys y → p y ≡ q y) → list_any p ys ≡ list_any q ys
same_any p q [] f = refl
same_any p q (y ∷ ys) f = ap (λ b. b || list_any p ys) (f y (contains_here y ys)) ∙ ap (λ b. q y || b) (same_any p q ys (λ z c. f z (contains_later z y ys c)))

-- ---- what is kept

pub kept_same : (h : Held) → IsKept h h
kept_same Nothing = refl
kept_same (Category c) = refl
kept_same (Set set) = (set, refl)

-- a set that becomes another
pub kept_set : (first old new : Held) → IsKept first old → ((set : Categories) × (old ≡ Set set)) → ((set : Categories) × (new ≡ Set set)) → IsKept first new
kept_set Nothing old new e a b = absurd (let f = sym e ∙ a.1 in cc)
kept_set (Category c) old new e a b = absurd (let f = sym e ∙ a.1 in cc)
kept_set (Set set) old new e a b = b

-- ---- one declaration more

module _ (k : Known) (i : Kept) (count : ℕ) where
  -- a declaration says the same where only a name that it leaves out holds something else
  module _ (old new : List Held) (u : ℕ) (others : (e : ℕ) → (e ≡ u → ⊥) → get_or new e Nothing ≡ get_or old e Nothing) where
    same_meant : (w : ScopedWord) → (meant_in k w ≡ Some u → ⊥) → meant_held new (meant_in k w) ≡ meant_held old (meant_in k w)
    same_meant w n = by (meant_in k w) n where
      by : (r : Option ℕ) → (r ≡ Some u → ⊥) → meant_held new r ≡ meant_held old r
      by None m = refl
      by (Some d) m = others d (λ e. m (ap Some e))

    pub same_says : (c : ℕ) (x : Definition) → LeavesOut k i x u → says_of k i new count c x ≡ says_of k i old count c x
    same_says c x leaves = same_second (λ w. meant_in k w ≡ Some u → ⊥) old new count (meant_in k) c same_meant (item_at i x.at).args (λ w h e. leaves w h e)

  module _ (all : List Definition) (order : AreInOrder k i all) (n : ℕ) (y : Definition) (within : n < length all) (is : y ≡ get_or all n y) (first old new : List Held) (given : IsGivenMore k i count old new y) where
    at_n : slice_get all n ≡ Some y
    at_n = there_as all n y within is

    leaves_out : (x : Definition) → Contains (take n all) x → LeavesOut k i x y.set
    leaves_out = in_take (λ x. LeavesOut k i x y.set) n all (λ m d before l. order m n (get_or all m d) y (is_there all m d l) at_n (omega (arith, before)))

    same_made : (d c : ℕ) → list_any (is_made_by k i new count d c) (take n all) ≡ list_any (is_made_by k i old count d c) (take n all)
    same_made d c = same_any (is_made_by k i new count d c) (is_made_by k i old count d c) (take n all) (λ x h. ap (λ b. (x.set == d) && b) (same_says old new y.set given.others c x (leaves_out x h)))

    its_value : (c : ℕ) → says_of k i old count c y ≡ says_of k i new count c y
    its_value c = sym (same_says old new y.set given.others c y (order n n y y at_n at_n (omega arith)))

    made_more : (d c : ℕ) → list_any (is_made_by k i new count d c) (take (n + 1) all) ≡ (list_any (is_made_by k i old count d c) (take n all) || is_made_by k i new count d c y)
    made_more d c =
        list_any_more (is_made_by k i new count d c) all n y within
        ∙ ap (λ b. b || is_made_by k i new count d c (get_or all n y)) (same_made d c)
        ∙ ap (λ z. list_any (is_made_by k i old count d c) (take n all) || is_made_by k i new count d c z) (sym is)

    pub one_made : ((d c : ℕ) → c < 1024 → held_at old d c ≡ (held_at first d c || list_any (is_made_by k i old count d c) (take n all)))
        → (d c : ℕ) → c < 1024 → held_at new d c ≡ (held_at first d c || list_any (is_made_by k i new count d c) (take (n + 1) all))
    one_made so d c l = elim (cases_Bool (y.set == d)) [
      | inl t ↦ by_set t ∙ or_assoc (held_at first d c) (list_any (is_made_by k i old count d c) (take n all)) (is_made_by k i new count d c y) ∙ ap (λ b. held_at first d c || b) (sym (made_more d c))
      | inr f ↦ by_other f ∙ or_assoc (held_at first d c) (list_any (is_made_by k i old count d c) (take n all)) (is_made_by k i new count d c y) ∙ ap (λ b. held_at first d c || b) (sym (made_more d c))
    ] where
      by_set : (y.set == d) ≡ true → held_at new d c ≡ ((held_at first d c || list_any (is_made_by k i old count d c) (take n all)) || is_made_by k i new count d c y)
      by_set t =
          let e : y.set ≡ d = same_number y.set d t in
          ap (λ u. held_at new u c) (sym e)
          ∙ given.gained c l
          ∙ ap (λ u. held_at old u c || says_of k i old count c y) e
          ∙ ap (λ b. b || says_of k i old count c y) (so d c l)
          ∙ ap (λ b. (held_at first d c || list_any (is_made_by k i old count d c) (take n all)) || b) (its_value c)
          ∙ ap (λ b. (held_at first d c || list_any (is_made_by k i old count d c) (take n all)) || (b && says_of k i new count c y)) (sym t)

      by_other : (y.set == d) ≡ false → held_at new d c ≡ ((held_at first d c || list_any (is_made_by k i old count d c) (take n all)) || is_made_by k i new count d c y)
      by_other f =
          ap (is_held c) (given.others d (other_number y.set d f))
          ∙ so d c l
          ∙ or_none (held_at first d c || list_any (is_made_by k i old count d c) (take n all))
          ∙ ap (λ b. (held_at first d c || list_any (is_made_by k i old count d c) (take n all)) || (b && says_of k i new count c y)) (sym f)

    kept_more : IsSetIn old y.set → ((d : ℕ) → IsKept (get_or first d Nothing) (get_or old d Nothing)) → (d : ℕ) → IsKept (get_or first d Nothing) (get_or new d Nothing)
    kept_more set kept d = elim (cases_Bool (y.set == d)) [
      | inl t ↦ let e = same_number y.set d t in subst (λ z. IsKept (get_or first z Nothing) (get_or new z Nothing)) e (kept_set (get_or first y.set Nothing) (get_or old y.set Nothing) (get_or new y.set Nothing) (kept y.set) set given.is_set)
      | inr f ↦ subst (IsKept (get_or first d Nothing)) (sym (given.others d (other_number y.set d f))) (kept d)
    ]

    -- the loop's step
    pub made_step : IsSetIn old y.set → AreMade k i count first (take n all) old → AreMade k i count first (take (n + 1) all) new
    made_step set are = record { len = given.len ∙ are.len; kept = kept_more set are.kept; made = one_made are.made }

  -- at first none has said anything, and at the end all have
  pub none_made : (all : List Definition) (helds : List Held) → AreMade k i count helds (take 0 all) helds
  none_made [] helds = record { len = refl; kept = λ d. kept_same (get_or helds d Nothing); made = λ d c l. or_none (held_at helds d c) }
  none_made (x ∷ xs) helds = record { len = refl; kept = λ d. kept_same (get_or helds d Nothing); made = λ d c l. or_none (held_at helds d c) }

  pub all_made : (all : List Definition) (n : ℕ) → length all ≤ n → (first helds : List Held) → AreMade k i count first (take n all) helds → AreMade k i count first all helds
  all_made all n over first helds are = subst (λ ds. AreMade k i count first ds helds) (take_all n all over) are

  -- a set is one still
  pub can_still : (all : List Definition) (first helds : List Held) → AreMade k i count first all helds → (x : Definition) → CanBeMade i first x → CanBeMade i helds x
  can_still all first helds are x can = record {
    within = can.within;
    is_set = let (set, e) = can.is_set in subst (λ h. IsKept h (get_or helds x.set Nothing)) e (are.kept x.set);
    declares = can.declares;
  }

-- ---- one set

-- a name that holds a set is there
pub set_within : (helds : List Held) (d : ℕ) (set : Categories) → get_or helds d Nothing ≡ Set set → d < length helds
set_within [] d set e = absurd (let f : Nothing ≡ Set set = e in cc)
set_within (h ∷ hs) zero set e = omega arith
set_within (h ∷ hs) (suc d) set e = let l = set_within hs d set e in omega (arith, l)

pub gained_set : (old new : List Held) (d : ℕ) (set after : Categories) (more : Categories) → get_or old d Nothing ≡ Set set → new ≡ changed old d (Set after)
    → ((c : ℕ) → c < 1024 → in_words after.words c ≡ (in_words set.words c || in_words more.words c)) → IsGained old new d more
gained_set old new d before after more at is union =
    let within = set_within old d before at in
    let there : get_or new d Nothing ≡ Set after = ap (λ hs. get_or hs d Nothing) is ∙ get_or-set_same old d (Set after) Nothing within in
    record {
      len = ap length is ∙ length-set old d (Set after);
      is_set = (after, there);
      others = λ e n. ap (λ hs. get_or hs e Nothing) is ∙ get_or-set_other old d e (Set after) Nothing n;
      gained = λ c l. ap (is_held c) there ∙ union c l ∙ ap (λ h. is_held c h || in_words more.words c) (sym at);
    }

-- the declaration of a set is no mapping
pub not_mapping : (keyword : Keyword) → Contains (entry_of keyword).declares kinds.CategorySet → is_mapping keyword ≡ false
unfolding entry_of
not_mapping keywords.ClassMapping c = absurd (contains_none kinds.CategorySet c)
not_mapping keyword c = refl
