-- What the sections say keeps what labels ask of tables: each name that can be written in a context stands for one place.
use Rattle.std.specs.Prelude.{◌≡◌, ◌⊎◌, ◌||◌, ℕ, zero, suc, ◌+◌, ◌<◌, ◌≤◌, ◌==◌, Bool, true, false, not, nat_eq, List, [], ◌∷◌, ◌++◌, length, map, Contains, Some, slice_get}
use Rattle.std.specs.declared.cmp.Ordering.TheVariants.{Less, Equal}
use Rattle.std.specs.Cmp.{IsTotalOrder}
use Rattle.std.specs.Cmp.Lexicographic.{on_texts}
use Rattle.std.specs.Int.{w16, to_be_bytes}
use Rattle.std.specs.List.{list_any}
use Rattle.std.specs.List.Sorted.{IsStrictlySortedBy}
use Rattle.std.proofs.Common.{get_or, refl, sym, ap, subst, ◌∙◌, inl, inr, arith}
use Rattle.std.proofs.lemmas.Bool.Decides.{nat_tests}
use Rattle.std.proofs.lemmas.Bool.{leb-true, ltb-true}
use Rattle.std.proofs.lemmas.List.{length-map, map-append, map-id}
use Rattle.std.proofs.lemmas.List.Elements.{All-contains_itself, Contains-append_cases, Contains-append_left, Contains-append_right, Contains-push}
use Rattle.std.proofs.lemmas.Map.Lookups.{exact_bytes}
use Rattle.cil_base.specs.Decided.{Decided, decided_both, decided_same, same_bool}
use Rattle.cil_base.specs.Lists.{all_at, contains_cases, contains_here, contains_later, contains_none}
use Rattle.cil_base.specs.Places.{none_some, some_same}
use Rattle.cil_syntax.specs.Spelling.{same_bytes}
use Rattle.cil_mls.specs.declared.named.Named.{Named}
use Rattle.cil_mls.specs.LevelTexts.{IsWithout}
use Rattle.cil_mls.specs.declared.categories.Categories.{Categories}
use Rattle.cil_mls.specs.Names.{name_of, named_cmp}
use Rattle.cil_labels.specs.Index.{HasIndex}
use Rattle.cil_labels.specs.LevelTable.{IsWritable}
use Rattle.cil_labels.specs.Parts.{AreApart}
use Rattle.cil_format.specs.Fields.{by_text, text}
use Rattle.cil_format.specs.Format.{Format, each_fits}
use Rattle.cil_format.proofs.SortedRecords.{sorted_records, text_below}
use Rattle.cil_label_bytes.specs.Layout.{LabelNames, alias, aliases, categories, is_new, labels, new_name, sensitivity, zipped}
use Rattle.cil_label_bytes.proofs.Insertion.{NoneEqual, sorted_those}

-- ---- new names

number_itself : (n : ℕ) → nat_eq n n ≡ true
number_itself n = grind (arith, nat_tests)

bytes_itself : (a : List ℕ) → same_bytes a a ≡ true
bytes_itself [] = refl
bytes_itself (b ∷ bs) = rw (number_itself b) (bytes_itself bs)

or_true : (a b : Bool) → b ≡ true → (a || b) ≡ true
or_true true b e = refl
or_true false b e = e

known : (names : List (List ℕ)) (a x : List ℕ) → Contains names x → x ≡ a → list_any (same_bytes a) names ≡ true
known [] a x c e = absurd (contains_none x c)
known (n ∷ names) a x c e = elim (contains_cases x n names c) [
  | inl same ↦ let is : same_bytes a n ≡ true = subst (λ w. same_bytes a w ≡ true) (sym (same ∙ e)) (bytes_itself a) in ap (λ b. b || list_any (same_bytes a) names) is
  | inr d ↦ or_true (same_bytes a n) (list_any (same_bytes a) names) (known names a x d e)
]

not_known : (b : Bool) → not b ≡ true → b ≡ true → ⊥
not_known true e f = let g : false ≡ true = e in cc
not_known false e f = cc

-- a new name is none of those that are there
pub new_is_none : (names : List (List ℕ)) (a : List ℕ) → is_new names a ≡ true → (x : List ℕ) → Contains names x → x ≡ a → ⊥
new_is_none names a fresh x c e = not_known (list_any (same_bytes a) names) fresh (known names a x c e)

-- no two of some names are equal
abbrev pub Differ : List (List ℕ) → Type 0
Differ [] = Unit {0}
Differ (a ∷ more) = ((x : List ℕ) → Contains more x → a ≡ x → ⊥) × Differ more

module _ {A : Type 0} (format : List A → Format A) (key : A → List ℕ) (tells : (before : List A) (a : A) → (format before).Fits a → is_new (map key before) (key a) ≡ true) where
  none_before : (before xs : List A) → each_fits format before xs → (x : List ℕ) → Contains (map key xs) x → (y : List ℕ) → Contains (map key before) y → y ≡ x → ⊥
  none_before before [] fits x c y d e = contains_none x c
  none_before before (a ∷ more) fits x c y d e = elim (contains_cases x (key a) (map key more) c) [
    | inl same ↦ new_is_none (map key before) (key a) (tells before a fits.0) y d (e ∙ sym same)
    | inr later ↦ none_before (before ++ a ∷ []) more fits.1 x later y
        (subst (λ (w : List (List ℕ)). Contains w y) (sym (map-append _ before (a ∷ []))) (Contains-append_left (map key before) (key a ∷ []) y d)) e
  ]

  pub all_differ : (before xs : List A) → each_fits format before xs → Differ (map key xs)
  all_differ before [] fits = tt
  all_differ before (a ∷ more) fits = (
    λ x c e. none_before (before ++ a ∷ []) more fits.1 x c (key a)
        (subst (λ (w : List (List ℕ)). Contains w (key a)) (sym (map-append _ before (a ∷ []))) (Contains-push (map key before) (key a))) e,
    all_differ (before ++ a ∷ []) more fits.1,
  )

pub categories_differ : (names : List (List ℕ)) → categories.Fits names → Differ names
categories_differ names fits =
    subst Differ (map-id names) (all_differ new_name (λ x. x) (λ before a fit. subst (λ w. is_new w a ≡ true) (sym (map-id before)) fit.1) [] names fits.1.1)

-- ---- aliases rise by their names

named_total : IsTotalOrder named_cmp
named_total = on_texts name_of

module _ (names : List (List ℕ)) where
  abbrev Fit : Named → Type 0
  Fit = (alias names).Fits

  alias_below : (a b : Named) → Fit a → Fit b → by_text ((alias names).spell a) ((alias names).spell b) ≡ true → named_cmp a b ≡ Less
  alias_below a b fa fb up = text_below a.name b.name (to_be_bytes w16 a.place) (to_be_bytes w16 b.place) fa.0.0.0.0 fb.0.0.0.0 up

  -- aliases rise in byte order of their names
  pub aliases_rise : (rows : List Named) → (aliases names).Fits rows → IsStrictlySortedBy named_cmp rows
  aliases_rise rows fits = sorted_records by_text (alias names).spell Fit named_cmp named_total alias_below rows fits.1.1 fits.1.2

  pub alias_new : (rows : List Named) → (aliases names).Fits rows → (a : Named) → Contains rows a → is_new names a.name ≡ true
  alias_new rows fits a c = let fit = all_at Fit rows a fits.1.1 c in fit.0.0.1

  pub alias_placed : (rows : List Named) → (aliases names).Fits rows → (a : Named) → Contains rows a → a.place < length names
  alias_placed rows fits a c = let fit = all_at Fit rows a fits.1.1 c in ltb-true a.place (length names) fit.0.1.1

rising_none_equal : (rows : List Named) → IsStrictlySortedBy named_cmp rows → NoneEqual named_cmp named_total rows
unfolding IsStrictlySortedBy
rising_none_equal [] up = tt
rising_none_equal (a ∷ more) up = (
  λ s c e. let lt : named_cmp a s ≡ Less = all_at (λ z. named_cmp a z ≡ Less) more s up.0 c in let f : Less ≡ Equal = sym lt ∙ e in cc,
  rising_none_equal more up.1,
)

-- ---- the rows of names at their places

abbrev row : List ℕ → ℕ → Named
row name place = record { name = name; place = place }

rows_from : ℕ → List (List ℕ) → List Named
rows_from i [] = []
rows_from i (n ∷ ns) = row n i ∷ rows_from (suc i) ns

row_at : (i : ℕ) (ns : List (List ℕ)) (s : Named) → Contains (rows_from i ns) s → (k : ℕ) × (slice_get ns k ≡ Some s.name) × (s.place ≡ i + k)
unfolding rows_from
row_at i [] s c = absurd (contains_none s c)
row_at i (n ∷ ns) s c = elim (contains_cases s (row n i) (rows_from (suc i) ns) c) [
  | inl e ↦ (0, ap (λ (r : Named). Some r.name) e, let p : i ≡ s.place = ap (λ (r : Named). r.place) e in omega (arith, p))
  | inr d ↦ let (k, at, placed) = row_at (suc i) ns s d in (suc k, at, omega (arith, placed))
]

row_there : (i : ℕ) (ns : List (List ℕ)) (k n : ℕ) (text : List ℕ) → slice_get ns k ≡ Some text → n ≡ i + k → Contains (rows_from i ns) (row text n)
unfolding rows_from
row_there i [] k n text at e = absurd (none_some text at)
row_there i (m ∷ ns) zero n text at e =
    let same : m ≡ text = some_same m text at in
    let here : i ≡ n = omega (arith, e) in
    subst (λ (w : List ℕ). Contains (row m i ∷ rows_from (suc i) ns) (row w n)) same
    (subst (λ (j : ℕ). Contains (row m i ∷ rows_from (suc i) ns) (row m j)) here (contains_here (row m i) (rows_from (suc i) ns)))
row_there i (m ∷ ns) (suc k) n text at e = contains_later (row text n) (row m i) (rows_from (suc i) ns) (row_there (suc i) ns k n text at (omega (arith, e)))

name_there : (ns : List (List ℕ)) (k : ℕ) (text : List ℕ) → slice_get ns k ≡ Some text → Contains ns text
name_there [] k text at = absurd (none_some text at)
name_there (n ∷ ns) zero text at = subst (Contains (n ∷ ns)) (some_same n text at) (contains_here n ns)
name_there (n ∷ ns) (suc k) text at = contains_later text n ns (name_there ns k text at)

row_name : (i : ℕ) (ns : List (List ℕ)) (s : Named) → Contains (rows_from i ns) s → Contains ns s.name
row_name i ns s c = let (k, at, placed) = row_at i ns s c in name_there ns k s.name at

names_none_equal : (i : ℕ) (ns : List (List ℕ)) → Differ ns → NoneEqual named_cmp named_total (rows_from i ns)
unfolding rows_from
names_none_equal i [] differ = tt
names_none_equal i (n ∷ ns) differ = (
  λ s c e. differ.0 s.name (row_name (suc i) ns s c) (exact_bytes n s.name e),
  names_none_equal (suc i) ns differ.1,
)

joined_none_equal : (rs ss : List Named) → NoneEqual named_cmp named_total rs → NoneEqual named_cmp named_total ss → ((r s : Named) → Contains rs r → Contains ss s → named_cmp r s ≡ Equal → ⊥)
    → NoneEqual named_cmp named_total (rs ++ ss)
joined_none_equal [] ss p q between = q
joined_none_equal (r ∷ rs) ss p q between = (
  λ s c e. elim (Contains-append_cases rs ss s c) [
    | inl d ↦ p.0 s d e
    | inr d ↦ between r s (contains_here r rs) d e
  ],
  joined_none_equal rs ss p.1 q (λ x s c. between x s (contains_later x r rs c)),
)

-- ---- names that can be written

without_more : (byte x : ℕ) (xs : List ℕ) → (x == byte) ≡ false → IsWithout byte xs → IsWithout byte (x ∷ xs)
without_more byte x xs e w zero d l = e
without_more byte x xs e w (suc k) d l = w k d (omega (arith, l))

decided_without : (byte : ℕ) (text : List ℕ) → Decided (IsWithout byte text)
decided_without byte [] = inl (λ k d l. absurd (omega (arith, l)))
decided_without byte (x ∷ xs) = elim (same_bool (x == byte) false) [
  | inr is ↦ inr (λ w. is (w zero x (omega arith)))
  | inl e ↦ elim (decided_without byte xs) [
    | inl w ↦ inl (without_more byte x xs e w)
    | inr no_ ↦ inr (λ w. no_ (λ k d l. w (suc k) d (omega (arith, l))))
  ]
]

decided_writable : (r : Named) → Decided (IsWritable r.name)
decided_writable r =
    decided_same (λ p. record { no_hyphen = p.0; no_dot = p.1 }) (λ (w : IsWritable r.name). (w.no_hyphen, w.no_dot)) (decided_both (decided_without 45 r.name) (decided_without 46 r.name))

-- ---- the index

module _ (count : ℕ) (ns : List (List ℕ)) (rows : List Named) (differ : Differ ns) (few : length ns ≤ count) (fits : (aliases ns).Fits rows) where
  all_rows : List Named
  all_rows = rows_from 0 ns ++ rows

  all_none_equal : NoneEqual named_cmp named_total all_rows
  unfolding all_rows
  all_none_equal =
      joined_none_equal (rows_from 0 ns) rows (names_none_equal 0 ns differ) (rising_none_equal rows (aliases_rise ns rows fits))
      (λ r s c d e. new_is_none ns s.name (alias_new ns rows fits s d) r.name (row_name 0 ns r c) (exact_bytes r.name s.name e))

  in_range : (ns : List (List ℕ)) (k : ℕ) (text : List ℕ) → slice_get ns k ≡ Some text → k < length ns
  in_range [] k text at = absurd (none_some text at)
  in_range (m ∷ ms) zero text at = omega arith
  in_range (m ∷ ms) (suc k) text at = let on = in_range ms k text at in omega (arith, on)

  placed_low : (r : Named) → Contains all_rows r → r.place < count
  unfolding all_rows
  placed_low r c = elim (Contains-append_cases (rows_from 0 ns) rows r c) [
    | inl d ↦ let (k, at, placed) = row_at 0 ns r d in let low = in_range ns k r.name at in omega (arith, placed, low, few)
    | inr d ↦ let low = alias_placed ns rows fits r d in omega (arith, low, few)
  ]

  named_so : (r : Named) (text : List ℕ) (n : ℕ) → Contains all_rows r → r.name ≡ text → r.place ≡ n → (slice_get ns n ≡ Some text) ⊎ Contains rows (row text n)
  unfolding all_rows
  named_so r text n c named placed = elim (Contains-append_cases (rows_from 0 ns) rows r c) [
    | inl d ↦
        let (k, at, there) = row_at 0 ns r d in
        let same : k ≡ n = omega (arith, there, placed) in
        inl (subst (λ (w : List ℕ). slice_get ns n ≡ Some w) named (subst (λ (j : ℕ). slice_get ns j ≡ Some r.name) same at))
    | inr d ↦ inr (subst (Contains rows) (λ i. record { name = named i; place = placed i }) d)
  ]

  there_so : (text : List ℕ) (n : ℕ) → (slice_get ns n ≡ Some text) ⊎ Contains rows (row text n) → Contains all_rows (row text n)
  unfolding all_rows
  there_so text n (inl at) = Contains-append_left (rows_from 0 ns) rows (row text n) (row_there 0 ns n n text at (omega arith))
  there_so text n (inr c) = Contains-append_right (rows_from 0 ns) rows (row text n) c

  pub has_index : HasIndex count ns rows
  has_index =
      let (index, is) = sorted_those named_cmp named_total (λ r. IsWritable r.name) decided_writable all_rows all_none_equal in (
        index,
        record {
          are_names = record {
            rising = is.rising;
            within = λ k d l. placed_low (get_or index k d) ((is.members (get_or index k d)).0 (All-contains_itself index k d l)).0;
          };
          same = λ text n. (
            (λ p. let m = (is.members p.row).0 p.is_row in record {
              writable = subst IsWritable p.named m.1;
              named = named_so p.row text n m.0 p.named p.placed;
            }),
            (λ p. record { row = row text n; is_row = (is.members (row text n)).1 (there_so text n p.named, p.writable); named = refl; placed = refl }),
          );
        },
      )

-- ---- the labels of tables

pub are_apart : (are_on : Bool) (t : LabelNames) → (labels are_on).Fits t → AreApart t.levels
unfolding labels
are_apart are_on t fits =
    let levels = t.levels in
    let of_categories = fits.0.0 in
    let of_sensitivities = fits.0.1.0 in
    let pairs = zipped levels.sensitivities levels.permitted in
    let listed = of_sensitivities.0 in
    let same : map (λ (p : List ℕ × Categories). p.0) pairs ≡ levels.sensitivities = ap (λ (p : List (List ℕ) × List Categories). p.0) listed.1 in
    let count : length (map (λ (p : List ℕ × Categories). p.0) pairs) ≡ length pairs = length-map pairs (λ (p : List ℕ × Categories). p.0) in
    let names : length levels.sensitivities ≡ length pairs = ap length (sym same) ∙ count in
    let few = leb-true (length pairs) 256 listed.0.0.1 in
    let few_categories = leb-true (length levels.categories) 1024 of_categories.0.0.1 in
    let differ : Differ levels.sensitivities =
    subst Differ same (all_differ (sensitivity (length levels.categories)) (λ (p : List ℕ × Categories). p.0) (λ before a fit. fit.0.1) [] pairs listed.0.1.1) in (
      has_index 256 levels.sensitivities levels.sensitivity_aliases differ (omega (arith, names, few)) of_sensitivities.1,
      has_index 1024 levels.categories levels.category_aliases (categories_differ levels.categories of_categories.0) few_categories of_categories.1,
    )
