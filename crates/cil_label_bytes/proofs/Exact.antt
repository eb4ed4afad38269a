-- The laws of the formats of names, levels and the sections that they are in.
use Rattle.std.proofs.Common.{◌≡◌, ℕ, ◌≤◌, Bool, List, [], ◌∷◌, length, refl, ap}
use Rattle.std.specs.Prelude.{nat_le}
use Rattle.std.proofs.lemmas.Bool.{leb-true}
use Rattle.cil_mls.specs.Dominance.{dominates}
use Rattle.cil_mls.specs.declared.categories.Categories.{Categories}
use Rattle.cil_format.specs.declared.fault.TableFault.TheVariants.{OutOfRange}
use Rattle.cil_format.specs.Fields.{text, small, set, by_text}
use Rattle.cil_format.specs.Format.{both, checked, listing, section}
use Rattle.cil_format.proofs.FieldLaws.{choose_exact, section_exact, listing_exact, small_exact, set_exact, text_exact}
use Rattle.cil_format.proofs.FormatLaws.{IsExact, both_exact, as_exact, checked_exact}
use Rattle.cil_label_bytes.specs.Names.{is_part, is_qualified, name, permission}
use Rattle.cil_label_bytes.specs.Layout.{is_new, new_name, categories, alias_of, alias, any_count, aliases, pairs_of, lists_of, sensitivity, sensitivities, permits, level_of, level, range_of, range, user_count, ranged_users, plain_users, users, category_part, sensitivity_part, labels_of, parts_of, labels}
use Rattle.cil_label_bytes.specs.Sets.{categories_below, numbers_in, words_of}
use Rattle.cil_label_bytes.proofs.SetLemmas.{numbers_read}

pub name_exact : IsExact name
name_exact = checked_exact is_qualified OutOfRange text text_exact

pub permission_exact : IsExact permission
permission_exact = checked_exact is_part OutOfRange text text_exact

-- ---- categories and aliases

pub new_name_exact : (names : List (List ℕ)) → IsExact (new_name names)
new_name_exact names = checked_exact (is_new names) OutOfRange name name_exact

pub categories_exact : IsExact categories
categories_exact = listing_exact (λ n. nat_le n 1024) new_name new_name_exact

pub alias_exact : (names : List (List ℕ)) → IsExact (alias names)
alias_exact names =
    as_exact alias_of (λ a. (a.name, a.place)) (both (new_name names) (λ n. small (length names))) (λ p fits. refl)
    (both_exact (new_name names) (λ n. small (length names)) (new_name_exact names) (λ n fits. small_exact (length names)))

pub aliases_exact : (names : List (List ℕ)) → IsExact (aliases names)
aliases_exact names = section_exact by_text any_count (alias names) (alias_exact names)

-- ---- sensitivities

pub categories_below_exact : (count : ℕ) → count ≤ 1024 → IsExact (categories_below count)
categories_below_exact count few = as_exact words_of numbers_in (set count) (λ xs fits. numbers_read count xs few fits) (set_exact count)

pairs_back : {A B : Type 0} (ps : List (A × B)) → pairs_of (lists_of ps) ≡ ps
pairs_back [] = refl
pairs_back (p ∷ ps) = ap (λ w. p ∷ w) (pairs_back ps)

pub sensitivity_exact : (count : ℕ) → count ≤ 1024 → (before : List (List ℕ × Categories)) → IsExact (sensitivity count before)
sensitivity_exact count few before =
    both_exact (new_name (lists_of before).0) (λ n. categories_below count) (new_name_exact (lists_of before).0) (λ n fits. categories_below_exact count few)

pub sensitivities_exact : (count : ℕ) → count ≤ 1024 → IsExact (sensitivities count)
sensitivities_exact count few =
    as_exact lists_of pairs_of (listing (λ n. nat_le n 256) (sensitivity count)) (λ ps fits. pairs_back ps)
    (listing_exact (λ n. nat_le n 256) (sensitivity count) (sensitivity_exact count few))

-- ---- levels and users

plain_exact : IsExact plain_users
plain_exact = as_exact (λ names. (names, [])) (λ p. p.0) (section by_text user_count name) (λ names fits. refl) (section_exact by_text user_count name name_exact)

module _ (count : ℕ) (few : count ≤ 1024) (permitted : List Categories) where
  pub level_exact : IsExact (level count permitted)
  level_exact =
      as_exact level_of (λ l. (l.sensitivity, l.categories)) (both (small (length permitted)) (λ place. checked (permits permitted place) OutOfRange (categories_below count))) (λ p fits. refl)
      (both_exact (small (length permitted)) (λ place. checked (permits permitted place) OutOfRange (categories_below count)) (small_exact (length permitted))
      (λ place fits. checked_exact (permits permitted place) OutOfRange (categories_below count) (categories_below_exact count few)))

  pub range_exact : IsExact (range count permitted)
  range_exact =
      as_exact range_of (λ r. (r.low, r.high)) (both (level count permitted) (λ low. checked (λ high. dominates high low) OutOfRange (level count permitted))) (λ p fits. refl)
      (both_exact (level count permitted) (λ low. checked (λ high. dominates high low) OutOfRange (level count permitted)) level_exact
      (λ low fits. checked_exact (λ high. dominates high low) OutOfRange (level count permitted) level_exact))

  ranged_exact : IsExact (ranged_users count permitted)
  ranged_exact =
      as_exact lists_of pairs_of (section by_text user_count (both name (λ n. range count permitted))) (λ ps fits. pairs_back ps)
      (section_exact by_text user_count (both name (λ n. range count permitted)) (both_exact name (λ n. range count permitted) name_exact (λ n fits. range_exact)))

  pub users_exact : (are_on : Bool) → IsExact (users are_on count permitted)
  users_exact are_on = choose_exact are_on (ranged_users count permitted) plain_users ranged_exact plain_exact

-- ---- the five sections

few_categories : (names : List (List ℕ)) → categories.Fits names → length names ≤ 1024
few_categories names fits = leb-true (length names) 1024 fits.0.1

pub category_part_exact : IsExact category_part
category_part_exact = both_exact categories aliases categories_exact (λ names fits. aliases_exact names)

pub sensitivity_part_exact : (count : ℕ) → count ≤ 1024 → IsExact (sensitivity_part count)
sensitivity_part_exact count few = both_exact (sensitivities count) (λ s. aliases s.0) (sensitivities_exact count few) (λ s fits. aliases_exact s.0)

pub labels_exact : (are_on : Bool) → IsExact (labels are_on)
unfolding labels
labels_exact are_on =
    as_exact (labels_of are_on) parts_of (both category_part (λ c. both (sensitivity_part (length c.0)) (λ s. users are_on (length c.0) s.0.1))) (λ p fits. refl)
    (both_exact category_part (λ c. both (sensitivity_part (length c.0)) (λ s. users are_on (length c.0) s.0.1)) category_part_exact
    (λ c fits. let few = few_categories c.0 fits.0 in
    both_exact (sensitivity_part (length c.0)) (λ s. users are_on (length c.0) s.0.1) (sensitivity_part_exact (length c.0) few) (λ s fit. users_exact (length c.0) few s.0.1 are_on)))
