-- The declarations of sets, one statement after another.
use Rattle.std.proofs.Common.{◌≡◌, ◌⊎◌, ℕ, ◌+◌, ◌<◌, List, [], ◌∷◌, ◌++◌, sym, ap, subst, inl, inr, arith}
use Rattle.std.specs.Prelude.{Contains}
use Rattle.std.proofs.lemmas.List.Elements.{Contains-append_cases, Contains-append_left, Contains-append_right}
use Rattle.cil_base.specs.Lists.{contains_cases, contains_here, contains_none}
use Rattle.cil_macros.specs.Items.{Kept, item_at, items_in}
use Rattle.cil_known.specs.declared.known.Known.{Known}
use Rattle.cil_mls.specs.SetEdges.{DeclaresJust, DeclaresNone, DeclaresSet}
use Rattle.cil_levels.specs.declared.definitions.Definition.{Definition}
use Rattle.cil_levels.specs.Made.{AreDefined}

before_or_at : (j at : ℕ) → j < at + 1 → (j < at) ⊎ (j ≡ at)
before_or_at j at l = grind arith

module _ (k : Known) (i : Kept) where
  pub none_defined : (all : List Definition) → all ≡ [] → AreDefined k i 0 all
  none_defined all e = record {
    each = λ d c. absurd (contains_none d (subst (λ (ds : List Definition). Contains ds d) e c));
    every = λ at set l h. absurd (omega (arith, l));
  }

  pub no_definition : (at : ℕ) (all : List Definition) → DeclaresNone k (items_in i) (item_at i at) → AreDefined k i at all → AreDefined k i (at + 1) all
  no_definition at all none are = record {
    each = λ d c. let h = are.each d c in let l = h.0 in (omega (arith, l), h.1);
    every = λ b set l h. elim (before_or_at b at l) [
      | inl before ↦ are.every b set before h
      | inr here ↦ let g : DeclaresSet k (items_in i) (item_at i at) set = subst (λ z. DeclaresSet k (items_in i) (item_at i z) set) here h in absurd (none g.at g.name g.declares)
    ];
  }

  pub one_definition : (at set : ℕ) (all new : List Definition) → new ≡ all ++ record { set = set; at = at } ∷ [] → DeclaresJust k (items_in i) (item_at i at) set → AreDefined k i at all → AreDefined k i (at + 1) new
  one_definition at set all new push just are =
      let one : Definition = record { set = set; at = at } in
      subst (AreDefined k i (at + 1)) (sym push) (record {
        each = λ d c. elim (Contains-append_cases all (one ∷ []) d c) [
          | inl old ↦ let h = are.each d old in let l = h.0 in (omega (arith, l), h.1)
          | inr here ↦ elim (contains_cases d one [] here) [
            | inl same ↦ let e : at ≡ d.at = ap (λ (z : Definition). z.at) same in (omega (arith, e), subst (λ (z : Definition). DeclaresJust k (items_in i) (item_at i z.at) z.set) same just)
            | inr none ↦ absurd (contains_none d none)
          ]
        ];
        every = λ b other l h. elim (before_or_at b at l) [
          | inl before ↦ Contains-append_left all (one ∷ []) (record { set = other; at = b }) (are.every b other before h)
          | inr here ↦
              let g : DeclaresSet k (items_in i) (item_at i at) other = subst (λ z. DeclaresSet k (items_in i) (item_at i z) other) here h in
              let same : other ≡ set = just.only other g in
              let is : one ≡ record { set = other; at = b } = λ z. record { set = sym same z; at = sym here z } in
              Contains-append_right all (one ∷ []) (record { set = other; at = b }) (subst (Contains (one ∷ [])) is (contains_here one []))
        ];
      })
