-- Rows of names in order, and the index that there is where each name stands for one place.
use Rattle.std.specs.Prelude.{◌≡◌, ℕ, List, [], ◌∷◌, Contains}
use Rattle.std.specs.declared.cmp.Ordering.{Ordering}
use Rattle.std.specs.declared.cmp.Ordering.TheVariants.{Less}
use Rattle.std.specs.Ordering.{ordering_then}
use Rattle.std.specs.List.{AllByRecursion}
use Rattle.std.specs.List.Sorted.{IsStrictlySortedBy}
use Rattle.std.proofs.Common.{refl, sym, ap, subst}
use Rattle.cil_base.specs.Lists.{Lists, one_list}
use Rattle.cil_mls.specs.declared.named.Named.{Named}
use Rattle.cil_mls.specs.Names.{AreNames, NamesOfLevels, named_cmp}
use Rattle.cil_labels.specs.Index.{AreIndexed, HasIndex, IsIndexOf}
use Rattle.cil_labels.specs.LevelTable.{LevelTable, NamesPlace}
use Rattle.cil_labels.specs.Parts.{AreApart}
use Rattle.cil_labels.specs.Rows.{IsRow, row_cmp}
use Rattle.cil_labels.proofs.RowLemmas.{row_total, same_row}

-- where names rise, rows do
less_then : (o p : Ordering) → o ≡ Less → ordering_then o p ≡ Less
less_then o p e = ap (λ q. ordering_then q p) e

all_less : (r : Named) (rs : List Named) → AllByRecursion (λ s. named_cmp r s ≡ Less) rs → AllByRecursion (λ s. row_cmp r s ≡ Less) rs
all_less r [] all = tt
all_less r (s ∷ rs) all = (less_then _ _ all.0, all_less r rs all.1)

rows_rise : (rs : List Named) → IsStrictlySortedBy named_cmp rs → IsStrictlySortedBy row_cmp rs
unfolding IsStrictlySortedBy
rows_rise [] up = tt
rows_rise (r ∷ rs) up = (all_less r rs up.0, rows_rise rs up.1)

module _ (count : ℕ) (names : List (List ℕ)) (aliases rows : List Named) (listed : Lists row_cmp (IsRow names aliases) rows) where
  -- where there is an index, it is these rows
  pub rows_are_names : HasIndex count names aliases → AreNames count rows
  rows_are_names (index, is) = subst (AreNames count) (one_list row_cmp row_total (IsRow names aliases) index rows in_order listed) is.are_names
    where
      in_order : Lists row_cmp (IsRow names aliases) index
      in_order = record {
        rising = rows_rise index is.are_names.rising;
        members = λ r. (
          λ c. (is.same r.name r.place).0 (record { row = r; is_row = c; named = refl; placed = refl }),
          λ p. let n = (is.same r.name r.place).1 p in subst (Contains index) (same_row n.row r n.named n.placed) n.is_row,
        );
      }

  -- and where the rows are names, they are an index
  pub rows_are_index : AreNames count rows → IsIndexOf count names aliases rows
  rows_are_index are = record {
    are_names = are;
    same = λ text n. (
      λ is. subst (λ t. NamesPlace names aliases t n) is.named (subst (λ k. NamesPlace names aliases is.row.name k) is.placed ((listed.members is.row).0 is.is_row)),
      λ p. record { row = record { name = text; place = n }; is_row = (listed.members (record { name = text; place = n })).1 p; named = refl; placed = refl },
    );
  }

listed_as : (ns ms : List (List ℕ)) (xs ys rows : List Named) → ns ≡ ms → xs ≡ ys → Lists row_cmp (IsRow ns xs) rows → Lists row_cmp (IsRow ms ys) rows
listed_as ns ms xs ys rows p q listed = subst (λ zs. Lists row_cmp (IsRow ms zs) rows) q (subst (λ zs. Lists row_cmp (IsRow zs xs) rows) p listed)

-- the rows of sensitivities and of categories, gathered from what the table has
module _ (t : LevelTable) (ns ms : List (List ℕ)) (xs ys s c : List Named) (same_ns : ns ≡ t.sensitivities) (same_xs : xs ≡ t.sensitivity_aliases) (same_ms : ms ≡ t.categories)
    (same_ys : ys ≡ t.category_aliases) (of_s : Lists row_cmp (IsRow ns xs) s) (of_c : Lists row_cmp (IsRow ms ys) c) where
  listed_s : Lists row_cmp (IsRow t.sensitivities t.sensitivity_aliases) s
  listed_s = listed_as ns t.sensitivities xs t.sensitivity_aliases s same_ns same_xs of_s

  listed_c : Lists row_cmp (IsRow t.categories t.category_aliases) c
  listed_c = listed_as ms t.categories ys t.category_aliases c same_ms same_ys of_c

  pub not_apart : (AreNames 256 s × AreNames 1024 c → ⊥) → AreApart t → ⊥
  not_apart none apart =
      none (rows_are_names 256 t.sensitivities t.sensitivity_aliases s listed_s apart.0, rows_are_names 1024 t.categories t.category_aliases c listed_c apart.1)

  pub are_indexed : (names : NamesOfLevels) → names ≡ record { sensitivities = s; categories = c } → AreNames 256 names.sensitivities → AreNames 1024 names.categories → AreIndexed t names
  are_indexed names is up_s up_c =
      subst (AreIndexed t) (sym is) (record {
        sensitivities = rows_are_index 256 t.sensitivities t.sensitivity_aliases s listed_s (subst (λ (n : NamesOfLevels). AreNames 256 n.sensitivities) is up_s);
        categories = rows_are_index 1024 t.categories t.category_aliases c listed_c (subst (λ (n : NamesOfLevels). AreNames 1024 n.categories) is up_c);
      })
