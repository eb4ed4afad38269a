-- What statements one after another add.
use Rattle.std.specs.Prelude.{Contains, Option, map, length, take}
use Rattle.std.proofs.Common.{◌≡◌, ℕ, ◌+◌, ◌≤◌, true, false, List, [], ◌∷◌, ◌++◌, refl, sym, ◌∙◌, ap, subst, inl, inr}
use Rattle.std.proofs.lemmas.Bool.{true≢false}
use Rattle.std.proofs.lemmas.List.{take_all}
use Rattle.cil_base.specs.Lists.{contains_none}
use Rattle.cil_faults.specs.Namespaces.{Namespace}
use Rattle.cil_faults.specs.declared.fault.Fault.{Fault}
use Rattle.cil_syntax.specs.declared.kind.Keyword.{Keyword}
use Rattle.cil_syntax.specs.declared.kind.Keyword.TheVariants as keywords
use Rattle.cil_syntax.specs.Scopes.{ScopedWord}
use Rattle.cil_syntax.specs.Terms.{Leaf}
use Rattle.cil_macros.specs.Item.{Item, OptSet, is_enabled}
use Rattle.cil_macros.specs.Items.{leaves, says_lists}
use Rattle.cil_names.specs.Resolves.{all_wanted_in, is_mapping}
use Rattle.cil_names.proofs.ReadingLemmas.{plain_said}
use Rattle.cil_known.specs.declared.known.Known.{Known}
use Rattle.cil_known.specs.Known.{enabled_in, row_in, value_in}
use Rattle.cil_mls.proofs.PairLemmas.{taken_more}
use Rattle.cil_ranges.specs.declared.own.Judge.{Judge}
use Rattle.cil_ranges.specs.Checked.{AddsAmong, AddsInside, AddsSaid}
use Rattle.cil_ranges.specs.Inside.{says_levels}
use Rattle.cil_ranges.specs.LevelFaults.{IsFaultInside, IsFaultSaid}
use Rattle.cil_ranges.specs.Levels.{Ground}
use Rattle.cil_ranges.proofs.WalkLemmas.{leaf_right, none_more, none_wrong, then_more, wrong_apart}

-- ---- statements that have levels

no_mapping : (keyword : Keyword) → says_levels keyword ≡ true → is_mapping keyword ≡ false
no_mapping keywords.ClassMapping e = absurd (true≢false (sym e))
no_mapping keyword e = refl

pub may_say_lists_too : (keyword : Keyword) → says_levels keyword ≡ true → says_lists keyword ≡ true
may_say_lists_too keywords.SensitivityCategory e = refl
may_say_lists_too keywords.CategorySet e = refl
may_say_lists_too keywords.Level e = refl
may_say_lists_too keywords.LevelRange e = refl
may_say_lists_too keywords.UserLevel e = refl
may_say_lists_too keywords.UserRange e = refl
may_say_lists_too keywords.RangeTransition e = refl
may_say_lists_too keywords.Call e = refl
may_say_lists_too keyword e = absurd (true≢false (sym e))

pub all_append : {X : Type 0} (xs : List X) → xs ≡ xs ++ []
all_append [] = refl
all_append (x ∷ xs) = ap (λ ys. x ∷ ys) (all_append xs)

-- the row of a statement: the values of what it asks for
pub asked_row : (k : Known) (x : Item) → says_levels x.keyword ≡ true → (words : List (Option ℕ)) → words ≡ row_in k x → words ≡ map (value_in k) (all_wanted_in x.args) ++ []
asked_row k x levels words is = is ∙ ap (map (value_in k)) (plain_said x.keyword x.args (no_mapping x.keyword levels)) ∙ all_append (map (value_in k) (all_wanted_in x.args))

-- ---- one statement

-- words alone have isnt levels
leaves_right : (s : OptSet) (g : Ground) (space : Namespace) (f : Fault) (ws : List ScopedWord) → IsFaultInside s g space (leaves ws) f → ⊥
unfolding leaves
leaves_right s g space f [] h = none_wrong s g space f h
leaves_right s g space f (w ∷ ws) h = elim ((wrong_apart s g space f (Leaf w) (leaves ws)).0 h) [ inl l ↦ leaf_right s g space f w l | inr r ↦ leaves_right s g space f ws r ]

module _ (k : Known) (by : Judge) (old : List Fault) (x : Item) where
  pub no_levels : says_levels x.keyword ≡ false → AddsSaid k by old old x
  no_levels isnt g judges = none_more old (IsFaultSaid (enabled_in k) g x) (λ f h. true≢false (sym h.levels ∙ isnt))

  pub not_enabled : is_enabled (enabled_in k) x ≡ false → AddsSaid k by old old x
  not_enabled isnt g judges = none_more old (IsFaultSaid (enabled_in k) g x) (λ f h. true≢false (sym h.enabled ∙ isnt))

  pub words_alone : (ws : List ScopedWord) → x.args ≡ leaves ws → AddsSaid k by old old x
  words_alone ws are g judges = none_more old (IsFaultSaid (enabled_in k) g x) (λ f h. leaves_right (enabled_in k) g x.space f ws (subst (λ ts. IsFaultInside (enabled_in k) g x.space ts f) are h.wrong))

  pub said_added : (new : List Fault) → says_levels x.keyword ≡ true → is_enabled (enabled_in k) x ≡ true → AddsInside k by old new x → AddsSaid k by old new x
  said_added new levels on adds g judges f = (
    λ c. elim ((adds g judges f).0 c) [ inl o ↦ inl o | inr h ↦ inr (record { enabled = on; levels = levels; wrong = h }) ],
    λ s. (adds g judges f).1 (elim s [ inl o ↦ inl o | inr h ↦ inr h.wrong ]),
  )

-- ---- all of them

module _ (k : Known) (by : Judge) where
  pub none_among : (xs : List Item) (old : List Fault) → AddsAmong k by old old (take 0 xs)
  none_among [] old g judges = none_more old (λ f. (x : Item) × Contains [] x × IsFaultSaid (enabled_in k) g x f) (λ f h. contains_none h.0 h.1)
  none_among (x ∷ xs) old g judges = none_more old (λ f. (y : Item) × Contains [] y × IsFaultSaid (enabled_in k) g y f) (λ f h. contains_none h.0 h.1)

  pub more_among : (xs : List Item) (i : ℕ) (x : Item) → take (i + 1) xs ≡ take i xs ++ x ∷ [] → (old mid new : List Fault) → AddsAmong k by old mid (take i xs) → AddsSaid k by mid new x → AddsAmong k by old new (take (i + 1) xs)
  more_among xs i x taken old mid new first second g judges =
      then_more old mid new (λ f. (y : Item) × Contains (take i xs) y × IsFaultSaid (enabled_in k) g y f) (IsFaultSaid (enabled_in k) g x) (λ f. (y : Item) × Contains (take (i + 1) xs) y × IsFaultSaid (enabled_in k) g y f)
      (first g judges) (second g judges) (λ f. (
        λ h. elim ((taken_more xs i x taken h.0).0 h.1) [ inl c ↦ inl (h.0, c, h.2) | inr e ↦ inr (subst (λ y. IsFaultSaid (enabled_in k) g y f) (sym e) h.2) ],
        λ s. elim s [ inl p ↦ (p.0, (taken_more xs i x taken p.0).1 (inl p.1), p.2) | inr q ↦ (x, (taken_more xs i x taken x).1 (inr refl), q) ],
      ))

  pub all_among : (xs : List Item) (i : ℕ) → length xs ≤ i → (old new : List Fault) → AddsAmong k by old new (take i xs) → AddsAmong k by old new xs
  all_among xs i over old new adds = subst (λ ys. AddsAmong k by old new ys) (take_all i xs over) adds
