-- The booleanifs of a policy, found one after another.
use Rattle.std.specs.Option.{option_or}
use Rattle.std.specs.Prelude.{MatchOption, None, Option, Some, find, nat_eq}
use Rattle.std.specs.Cmp.{nat_cmp_is}
use Rattle.std.specs.Ordering.{nat_cmp}
use Rattle.std.specs.declared.cmp.Ordering.TheVariants.{Less}
use Rattle.std.proofs.Common.{◌≡◌, ℕ, ◌+◌, ◌<◌, true, false, if◌then◌else◌, List, [], ◌∷◌, ◌++◌, map, refl, sym, ◌∙◌, ap, subst, inl, inr, arith}
use Rattle.std.proofs.lemmas.Bool.{cases_lt, eq-eqb}
use Rattle.std.proofs.lemmas.List.Elements.{Contains-append_cases}
use Rattle.std.proofs.lemmas.List.Folds.{find-append}
use Rattle.cil_base.specs.Lists.{contains_cases, contains_none}
use Rattle.cil_base.specs.Rising.{rising_in_front, rising_join, rising_nothing}
use Rattle.cil_syntax.specs.declared.kind.Keyword.{Keyword}
use Rattle.cil_syntax.specs.declared.kind.Keyword.TheVariants as keywords
use Rattle.cil_syntax.specs.declared.kind.Kind.{Kind}
use Rattle.cil_syntax.specs.declared.kind.Kind.TheVariants as kinds
use Rattle.cil_syntax.specs.declared.program.Statement.{Statement}
use Rattle.cil_syntax.specs.declared.term.Term as rust
use Rattle.cil_syntax.specs.Program.{statement_of}
use Rattle.cil_syntax.specs.Said.{args_of, said_of}
use Rattle.cil_syntax.specs.Terms.{nil}
use Rattle.cil_syntax.specs.Written.{Statement as Said}
use Rattle.cil_known.specs.blocks.Branches.{condition_in, replaced}
use Rattle.cil_known.specs.blocks.Contents.{is_conditional}
use Rattle.cil_known.specs.macros.Item.{all_replaced}
use Rattle.cil_known.specs.macros.Items.{Kept, condition_at, item_at, items_in, may_say_lists, placed_at, says_as_written, word_at}
use Rattle.cil_known.proofs.macros_lemmas.ItemsThere.{keyword_there, named_there}
use Rattle.cil_known.specs.declared.known.Known.{Known}
use Rattle.cil_known.specs.Known.{BeginWith, IsKnown, enabled_in, row_in, value_in}
use Rattle.cil_known.specs.names.Resolves.{all_wanted_in, is_mapping, wanted_in}
use Rattle.cil_known.specs.names.Unresolved.{term_with}
use Rattle.cil_known.proofs.names_lemmas.ReadingLemmas.{plain_said}
use Rattle.std.proofs.lemmas.List.{map-append}
use Rattle.cil_conditions.specs.declared.found.Found.{Found}
use Rattle.cil_conditions.specs.declared.token.Token.{Token}
use Rattle.cil_conditions.specs.Conditions.{NamesBooleans}
use Rattle.cil_conditions.specs.Gathered.{AreBothOf, AreFound, found_cmp}
use Rattle.cil_conditions.specs.Spelled.{Spells}
use Rattle.cil_conditions.specs.Walk.{IsConditionIn, IsSpelledBy, IsUnsaid}
use Rattle.cil_conditions.proofs.FindLemmas.{find_nothing}

-- ---- one place more

less_cmp : (a b : ℕ) → a < b → nat_cmp a b ≡ Less
less_cmp a b l = sym (nat_cmp_is a b Less l)

module _ (i : Kept) (k : Known) (at : ℕ) (found : List Found) (old : AreFound i k at found) where
  none_yet : find (λ f. nat_eq f.at at) found ≡ None
  none_yet = find_nothing (λ (f : Found). f.at) at found (λ f c e. let b = old.below f c in absurd (omega (arith, b, e)))

  -- the statement there has no branches
  pub found_skipped : (is_conditional (item_at i at).keyword ≡ true → (names : Kind → List (List ℕ)) → IsKnown k (items_in i) names → NamesBooleans (items_in i) (enabled_in k) (condition_at i at) → ⊥)
      → AreFound i k (at + 1) found
  found_skipped unsaid = record {
    rise = old.rise;
    below = λ f c. let b = old.below f c in omega (arith, b);
    each = λ names known j within is. elim (cases_lt j at) [
      | inl less ↦ old.each names known j less is
      | inr ge ↦ let e : j ≡ at = omega (arith, ge, within) in
          subst (λ j. is_conditional (item_at i j).keyword ≡ true
          → MatchOption (find (λ f. nat_eq f.at j) found) (NamesBooleans (items_in i) (enabled_in k) (condition_at i j) → ⊥) (AreBothOf i k names j)) (sym e)
          (λ so. subst (λ o. MatchOption o (NamesBooleans (items_in i) (enabled_in k) (condition_at i at) → ⊥) (AreBothOf i k names at)) (sym none_yet) (unsaid so names known)) is
    ];
  }

  module _ (f : Found) (same : f.at ≡ at) where
    later : (j : ℕ) → j < at → find (λ g. nat_eq g.at j) (found ++ f ∷ []) ≡ find (λ g. nat_eq g.at j) found
    later j less =
        find-append (λ (g : Found). nat_eq g.at j) found (f ∷ [])
        ∙ ap (option_or (find (λ g. nat_eq g.at j) found)) (find_nothing (λ (g : Found). g.at) j (f ∷ []) (λ g c e. elim (contains_cases g f [] c) [
          | inl h ↦ let s : g.at ≡ at = ap (λ (z : Found). z.at) (sym h) ∙ same in absurd (omega (arith, s, e, less))
          | inr d ↦ contains_none g d
        ]))
        ∙ or_none (find (λ g. nat_eq g.at j) found)
      where
        or_none : (o : Option Found) → option_or o None ≡ o
        or_none None = refl
        or_none (Some g) = refl

    this : find (λ g. nat_eq g.at at) (found ++ f ∷ []) ≡ Some f
    this =
        find-append (λ (g : Found). nat_eq g.at at) found (f ∷ [])
        ∙ ap (λ o. option_or o (find (λ g. nat_eq g.at at) (f ∷ []))) none_yet
        ∙ ap (λ b. if b then Some f else None) (eq-eqb f.at at same)

    -- a booleanif more
    pub found_more : ((names : Kind → List (List ℕ)) → IsKnown k (items_in i) names → AreBothOf i k names at f) → AreFound i k (at + 1) (found ++ f ∷ [])
    found_more both = record {
      rise = rising_join found_cmp found (f ∷ []) old.rise (rising_in_front found_cmp f [] (λ y c. absurd (contains_none y c)) (rising_nothing found_cmp))
          (λ x y c d. elim (contains_cases y f [] d) [
            | inl e ↦ less_cmp x.at y.at (let b = old.below x c in let s : y.at ≡ at = ap (λ (z : Found). z.at) (sym e) ∙ same in omega (arith, b, s))
            | inr n ↦ absurd (contains_none y n)
          ]);
      below = λ g c. elim (Contains-append_cases found (f ∷ []) g c) [
        | inl d ↦ let b = old.below g d in omega (arith, b)
        | inr d ↦ elim (contains_cases g f [] d) [
          | inl e ↦ let s : g.at ≡ at = ap (λ (z : Found). z.at) (sym e) ∙ same in omega (arith, s)
          | inr n ↦ absurd (contains_none g n)
        ]
      ];
      each = λ names known j within is. elim (cases_lt j at) [
        | inl less ↦ subst (λ o. MatchOption o (NamesBooleans (items_in i) (enabled_in k) (condition_at i j) → ⊥) (AreBothOf i k names j)) (sym (later j less)) (old.each names known j less is)
        | inr ge ↦ let e : j ≡ at = omega (arith, ge, within) in
            subst (λ j. MatchOption (find (λ g. nat_eq g.at j) (found ++ f ∷ [])) (NamesBooleans (items_in i) (enabled_in k) (condition_at i j) → ⊥) (AreBothOf i k names j)) (sym e)
            (subst (λ o. MatchOption o (NamesBooleans (items_in i) (enabled_in k) (condition_at i at) → ⊥) (AreBothOf i k names at)) (sym this) (both names known))
      ];
    }

pub nothing_found : (i : Kept) (k : Known) (found : List Found) → found ≡ [] → AreFound i k 0 found
nothing_found i k found e = subst (AreFound i k 0) (sym e) (record {
  rise = rising_nothing found_cmp;
  below = λ f c. absurd (contains_none f c);
  each = λ names known at within is. absurd (omega (arith, within));
})

-- ---- the condition of a placed booleanif

conditional_written : (w : Keyword) → is_conditional w ≡ true → says_as_written w ≡ true
conditional_written keywords.BooleanIf e = refl
conditional_written keywords.Block e = absurd (let f : false ≡ true = e in cc)
conditional_written w e = absurd (let f : false ≡ true = e in cc)

-- no list stands for a word of it
conditional_named : (w : Keyword) → is_conditional w ≡ true → may_say_lists w ≡ false
conditional_named keywords.BooleanIf e = refl
conditional_named keywords.Block e = absurd (let f : false ≡ true = e in cc)
conditional_named w e = absurd (let f : false ≡ true = e in cc)

conditional_plain : (w : Keyword) → is_conditional w ≡ true → is_mapping w ≡ false
conditional_plain keywords.BooleanIf e = refl
conditional_plain keywords.Block e = absurd (let f : false ≡ true = e in cc)
conditional_plain w e = absurd (let f : false ≡ true = e in cc)

module _ (i : Kept) (k : Known) (at : ℕ) (s : Statement) (is : statement_of s ≡ (placed_at i at).standing.statement.statement) where
  -- a booleanif has a term at least
  pub no_condition : args_of s ≡ nil → (names : Kind → List (List ℕ)) → NamesBooleans (items_in i) (enabled_in k) (condition_at i at) → ⊥
  unfolding replaced all_replaced
  no_condition none names named =
      subst (NamesBooleans (items_in i) (enabled_in k))
      (ap (λ (w : Said). replaced (λ p. p) (word_at i at) (condition_in w.args)) (sym is) ∙ ap (λ ts. replaced (λ p. p) (word_at i at) (condition_in ts)) none) named

  module _ (t : rust.Term) (has : IsConditionIn s t) where
    condition_is : condition_at i at ≡ term_with (word_at i at) s.at.«module» t
    condition_is =
        ap (λ (w : Said). replaced (λ p. p) (word_at i at) (condition_in w.args)) (sym is)
        ∙ ap (λ ts. replaced (λ p. p) (word_at i at) (condition_in ts)) has.are

    module _ (conditional : is_conditional s.keyword ≡ true) (words : List (Option ℕ)) (row : words ≡ row_in k (item_at i at)) where
      -- its meanings come first
      begins : BeginWith k (word_at i at) (said_of s.at.«module» t) words
      unfolding all_wanted_in all_replaced
      begins = record {
        more = map (value_in k) (all_wanted_in (all_replaced (λ p. p) (word_at i at) has.more));
        are =
            row
            ∙ ap (map (value_in k)) (plain_said (item_at i at).keyword (item_at i at).args (ap is_mapping (keyword_there i at s is) ∙ conditional_plain s.keyword conditional))
            ∙ ap (λ ts. map (value_in k) (all_wanted_in ts)) (named_there i at s is (conditional_named s.keyword conditional) (conditional_written s.keyword conditional) ∙ ap (all_replaced (λ p. p) (word_at i at)) has.are)
            ∙ map-append (value_in k) (wanted_in (term_with (word_at i at) s.at.«module» t)) (all_wanted_in (all_replaced (λ p. p) (word_at i at) has.more));
      }

      pub condition_unsaid : IsUnsaid k s.at.«module» t words → (names : Kind → List (List ℕ)) → IsKnown k (items_in i) names → NamesBooleans (items_in i) (enabled_in k) (condition_at i at) → ⊥
      condition_unsaid unsaid names known named =
          unsaid (items_in i) names (word_at i at) known begins (subst (NamesBooleans (items_in i) (enabled_in k)) condition_is named)

      pub condition_spelled : (c : List Token) → IsSpelledBy k s.at.«module» t words c → (f : Found)
          → f ≡ record { at = at; when_true = record { condition = c; value = true }; when_false = record { condition = c; value = false } }
          → (names : Kind → List (List ℕ)) → IsKnown k (items_in i) names → AreBothOf i k names at f
      condition_spelled c spelled f e names known =
          let spells = subst (λ u. Spells (items_in i) (enabled_in k) (names kinds.Boolean) u c) (sym condition_is) (spelled (items_in i) names (word_at i at) known begins) in
          subst (AreBothOf i k names at) (sym e) ((spells, refl), (spells, refl))
