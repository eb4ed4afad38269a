-- A policy has one table of levels.
use Rattle.std.proofs.Common.{◌≡◌, ◌↔◌, ℕ, zero, suc, ◌<◌, Bool, true, false, List, [], ◌∷◌, length, refl, sym, ◌∙◌, ap, subst, arith}
use Rattle.std.specs.Prelude.{All, Some, slice_get}
use Rattle.std.proofs.lemmas.Bool.{true≢false}
use Rattle.std.proofs.lemmas.Cmp.{nat_list_cmp_total, on_total}
use Rattle.cil_base.specs.Lists.{one_list}
use Rattle.cil_base.specs.Places.{get_so, in_range, some_at}
use Rattle.cil_base.specs.Searches.{same_truth}
use Rattle.cil_syntax.specs.declared.kind.Kind.TheVariants as kinds
use Rattle.cil_macros.specs.Item.{Item, OptSet}
use Rattle.cil_names.specs.Declarations.{Declared, Symbol}
use Rattle.cil_known.specs.Known.{IsNumbered}
use Rattle.cil_mls.specs.declared.categories.Categories.{Categories}
use Rattle.cil_mls.specs.declared.level.Range.{Range}
use Rattle.cil_mls.specs.Bits.{AreWords, in_words}
use Rattle.cil_mls.specs.Names.{name_of, named_cmp}
use Rattle.cil_mls.specs.OrderFaults.{Switches}
use Rattle.cil_mls.proofs.SameLemmas.{same_levels}
use Rattle.cil_ranges.specs.Levels.{Ground}
use Rattle.cil_ranges.proofs.GroundLemmas.{one_ground}
use Rattle.cil_labels.specs.LevelTable.{LevelTable}
use Rattle.cil_level_rows.specs.Laws.{HasOneLevelTable}
use Rattle.cil_level_rows.specs.Rows.{AreRangeRows, IsLevelTableOver, IsRangeRow}

-- lists of one length that have the same at each place
same_lists : {X : Type 0} (v w : List X) → length v ≡ length w → ((n : ℕ) (a b : X) → slice_get v n ≡ Some a → slice_get w n ≡ Some b → a ≡ b) → v ≡ w
same_lists [] [] len same = refl
same_lists [] (b ∷ w) len same = absurd (omega (arith, len))
same_lists (a ∷ v) [] len same = absurd (omega (arith, len))
same_lists (a ∷ v) (b ∷ w) len same =
    let head : a ≡ b = same zero a b refl refl in
    let rest : v ≡ w = same_lists v w (omega (arith, len)) (λ n x y at too. same (suc n) x y at too) in
    λ i. head i ∷ rest i

-- sets with the same categories are one
same_sets : (a b : Categories) → AreWords a.words → AreWords b.words → ((c : ℕ) → c < 1024 → (in_words a.words c ≡ true) ↔ (in_words b.words c ≡ true)) → a ≡ b
same_sets a b of_a of_b same =
    ap (λ l. l.categories) (same_levels (record { sensitivity = 0; categories = a }) (record { sensitivity = 0; categories = b }) of_a of_b (record { sensitivity = refl; categories = same }))

words_at : (sets : List Categories) → All (λ (p : Categories). AreWords p.words) sets → (n : ℕ) (set : Categories) → slice_get sets n ≡ Some set → AreWords set.words
words_at sets are n set at = subst (λ (p : Categories). AreWords p.words) (get_so sets n set set at) (are n set (in_range sets n set at))

-- ranges of one user are one
module _ (xs : List Item) (s : OptSet) (g : Ground) (users : List (List ℕ)) (n : ℕ) (user : Symbol) (declared : Declared xs s kinds.User user) (numbered : IsNumbered users user n) where
  same_range : (r p : Range) → IsRangeRow xs s g users n r → IsRangeRow xs s g users n p → r ≡ p
  same_range r p is too =
      let other = too.has user declared numbered in
      let same = (is.has user declared numbered).only other.item other.word p other.gives in
      let low = same_levels r.low p.low is.low too.low same.low in
      let high = same_levels r.high p.high is.high too.high same.high in
      λ i. record { low = low i; high = high i }

module _ (xs : List Item) (s : OptSet) (g : Ground) (users : List (List ℕ))
    (declared : (n : ℕ) (name : List ℕ) → slice_get users n ≡ Some name → (user : Symbol) × Declared xs s kinds.User user × IsNumbered users user n) where
  same_ranges : (v w : List Range) (on : Bool) → (on ≡ true) ↔ Switches xs s true → AreRangeRows xs s g users v → AreRangeRows xs s g users w → v ≡ w
  same_ranges v w false is a b = let off : Switches xs s true → ⊥ = λ on. true≢false (sym (is.1 on)) in a.off off ∙ sym (b.off off)
  same_ranges v w true is a b =
      let on = is.0 refl in
      same_lists v w (a.on on ∙ sym (b.on on)) (λ n r p at too.
      let within = in_range v n r at in
      let len = a.on on in
      let (name, there) = some_at users n (omega (arith, within, len)) in
      let (user, is_user, numbered) = declared n name there in
      same_range xs s g users n user is_user numbered r p (a.each n r at) (b.each n p too))

  same_tables : (t u : LevelTable) → IsLevelTableOver xs s g users t → IsLevelTableOver xs s g users u → t ≡ u
  same_tables t u a b =
      let total = on_total name_of nat_list_cmp_total in
      let on = same_truth t.are_on u.are_on (λ e. b.on.1 (a.on.0 e)) (λ e. a.on.1 (b.on.0 e)) in
      let categories = a.categories ∙ sym b.categories in
      let category_aliases = one_list named_cmp total _ t.category_aliases u.category_aliases a.category_aliases b.category_aliases in
      let sensitivities = a.sensitivities ∙ sym b.sensitivities in
      let permitted = same_lists t.permitted u.permitted (a.permitted.len ∙ sym b.permitted.len) (λ n v w at too.
      same_sets v w (words_at t.permitted a.words n v at) (words_at u.permitted b.words n w too) (λ c less.
      let here = a.permitted.each n v at c less in let there = b.permitted.each n w too c less in (λ e. there.1 (here.0 e), λ e. here.1 (there.0 e)))) in
      let sensitivity_aliases = one_list named_cmp total _ t.sensitivity_aliases u.sensitivity_aliases a.sensitivity_aliases b.sensitivity_aliases in
      let ranges = same_ranges t.users u.users t.are_on a.on a.ranges b.ranges in
      λ i. record {
        are_on = on i;
        categories = categories i;
        category_aliases = category_aliases i;
        sensitivities = sensitivities i;
        permitted = permitted i;
        sensitivity_aliases = sensitivity_aliases i;
        users = ranges i;
      }

pub one_level_table : HasOneLevelTable
one_level_table xs s users declared t u a b =
    same_tables xs s a.ground users declared t u a.over (subst (λ g. IsLevelTableOver xs s g users u) (one_ground xs s b.ground a.ground b.is_ground a.is_ground) b.over)
