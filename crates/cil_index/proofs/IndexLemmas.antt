-- Entries of records, one after another, and the index that has them.
use Rattle.std.specs.Prelude.{Contains, Some, slice_get}
use Rattle.std.specs.List.Sorted.{IsPermutation, IsSorted}
use Rattle.std.specs.Ordering.{is_lt, ordering_then}
use Rattle.std.proofs.Common.{◌≡◌, ℕ, ◌+◌, ◌<◌, ◌≤◌, true, List, [], ◌∷◌, ◌++◌, length, get_or, ap, ◌∙◌, subst, sym, inl, inr, arith}
use Rattle.std.proofs.Math.ListN.{get_or-eq_default}
use Rattle.std.proofs.Math.Seq.{get_or-append_seam}
use Rattle.std.proofs.lemmas.Bool.{cases_lt}
use Rattle.std.proofs.lemmas.List.{get_or_append_left, get_or_default, length-append}
use Rattle.std.proofs.lemmas.List.Elements.{Contains-append_cases, Contains-append_left, Contains-append_right, Contains-get_or}
use Rattle.std.proofs.lemmas.List.MinMax.{ranks_by}
use Rattle.std.proofs.lemmas.List.Sorted.{Contains-permutation, IsPermutation-sym, sorted_far}
use Rattle.cil_base.specs.Lists.{contains_cases, contains_here, contains_none, text_cmp}
use Rattle.cil_base.specs.Paths.{equal_from, less_from}
use Rattle.cil_base.specs.Places.{get_so, in_range, is_there, some_at}
use Rattle.std.proofs.lemmas.Option.{same_Some}
use Rattle.cil_index.specs.declared.index.Index.{Index}
use Rattle.cil_index.specs.declared.key.Entry.{Entry}
use Rattle.cil_index.specs.Entries.{AreEntries, BeginAt, HasAll, HasEntries, IsColumn, IsEntry, IsFoundAt, IsInPart, IsIndex, RiseIn, aim_of_record, entry_cmp, entry_of, entry_total, heading_of_record, part_of}
use Rattle.cil_index.specs.declared.record.Record.{Record}
use Rattle.cil_index.specs.Layout.{no_record, record_of_entry}
use Rattle.cil_index.proofs.RunLemmas.{none_past}

module _ (sets : List (List ℕ)) (records : List Record) where
  -- the first records have their entries, and there is no other entry
  pub record HasFirst (n : ℕ) (entries : List Entry) : Type 0 where
    pub each : (place : ℕ) (k : Record) → place < n → slice_get records place ≡ Some k → Contains entries (entry_of sets k place)
    pub only : (e : Entry) → Contains entries e → IsEntry sets records e

  pub first_none : (entries : List Entry) → entries ≡ [] → HasFirst 0 entries
  first_none entries none = record {
    each = λ place k less at. absurd (omega (arith, less));
    only = λ e has. absurd (contains_none e (subst (λ (es : List Entry). Contains es e) none has));
  }

  -- an entry that was made of the record at a place is one
  made_one : (n : ℕ) (e : Entry) → n < length records → ((k : Record) → slice_get records n ≡ Some k → e ≡ entry_of sets k n) → IsEntry sets records e
  made_one n e within is =
      let (k, at) = some_at records n within in
      let same : e ≡ entry_of sets k n = is k at in
      let place : e.place ≡ n = ap (λ (z : Entry). z.place) same in
      record { kept = k; is_there = ap (slice_get records) place ∙ at; is_its = same ∙ ap (entry_of sets k) (sym place) }

  pub first_more : (n : ℕ) (e : Entry) (old new : List Entry) → n < length records → HasFirst n old → ((k : Record) → slice_get records n ≡ Some k → e ≡ entry_of sets k n)
      → new ≡ old ++ e ∷ [] → HasFirst (n + 1) new
  first_more n e old new within so_far is push = record {
    each = λ place k less at. subst (λ xs. Contains xs (entry_of sets k place)) (sym push) (elim (cases_lt place n) [
      | inl before ↦ Contains-append_left old (e ∷ []) _ (so_far.each place k before at)
      | inr ge ↦ let same : place ≡ n = omega (arith, less, ge) in
          Contains-append_right old (e ∷ []) _
          (subst (λ p. Contains (e ∷ []) (entry_of sets k p)) (sym same)
          (subst (Contains (e ∷ [])) (is k (subst (λ p. slice_get records p ≡ Some k) same at)) (contains_here e [])))
    ]);
    only = λ x has. elim (Contains-append_cases old (e ∷ []) x (subst (λ (es : List Entry). Contains es x) push has)) [
      | inl c ↦ so_far.only x c
      | inr c ↦ elim (contains_cases x e [] c) [ inl same ↦ subst (IsEntry sets records) same (made_one n e within is) | inr none ↦ absurd (contains_none x none) ]
    ];
  }

  pub first_all : (n : ℕ) (entries : List Entry) → length records ≤ n → HasFirst n entries → HasEntries sets records entries
  first_all n entries over all = record {
    each = λ place k at. let within = in_range records place k at in all.each place k (omega (arith, within, over)) at;
    only = all.only;
  }

  pub entries_sorted : (old new : List Entry) → HasEntries sets records old → IsPermutation old new → IsSorted entry_cmp new → AreEntries sets records new
  entries_sorted old new has moved sorted = record {
    sorted = sorted;
    has = record {
      each = λ place k at. Contains-permutation old new _ moved (has.each place k at);
      only = λ e c. has.only e (Contains-permutation new old e (IsPermutation-sym old new moved) c);
    };
  }

  -- the entry of a place is that of the record there
  pub entry_made : (n : ℕ) (d : Record) (aim heading part place : ℕ) (k : Record) → n < length records → aim ≡ aim_of_record sets (get_or records n d) → heading ≡ heading_of_record sets (get_or records n d) → part ≡ part_of heading aim
      → place ≡ n → slice_get records n ≡ Some k → ◌≡◌ {A = Entry} (record { part = part; aim = aim; place = place }) (entry_of sets k n)
  entry_made n d aim heading part place k within is at_heading of_part here at =
      let there : get_or records n d ≡ k = same_Some _ _ (sym (is_there records n d within) ∙ at) in
      let same : aim ≡ aim_of_record sets k = is ∙ ap (aim_of_record sets) there in
      let of_heading : heading ≡ heading_of_record sets k = at_heading ∙ ap (heading_of_record sets) there in
      let in_part : part ≡ part_of (heading_of_record sets k) (aim_of_record sets k) = of_part ∙ ap (λ h. part_of h aim) of_heading ∙ ap (part_of (heading_of_record sets k)) same in
      λ i. record { part = in_part i; aim = same i; place = here i }

-- ---- columns of entries

-- what each of the first entries has
abbrev pub IsFirstColumn : {X : Type 0} → (Entry → X) → List Entry → ℕ → List X → Type 0
IsFirstColumn {X = X} of_entry entries i column = (length column ≡ i) × ((k : ℕ) (d : Entry) (x : X) → k < i → get_or column k x ≡ of_entry (get_or entries k d))

module _ {X : Type 0} (of_entry : Entry → X) (entries : List Entry) where
  pub column_none : (column : List X) → column ≡ [] → IsFirstColumn of_entry entries 0 column
  column_none column e = (ap (λ (z : List X). length z) e, λ k d x below. absurd (omega (arith, below)))

  pub column_more : (i : ℕ) (e : Entry) (old new : List X) → i < length entries → new ≡ old ++ of_entry (get_or entries i e) ∷ []
      → IsFirstColumn of_entry entries i old → IsFirstColumn of_entry entries (i + 1) new
  column_more i e old new within push (size, so_far) =
      let n = of_entry (get_or entries i e) in (
        ap (λ (z : List X). length z) push ∙ length-append old (n ∷ []) ∙ ap (λ k. k + 1) size,
        λ k d x below. elim (cases_lt k i) [
          | inl less ↦ ap (λ z. get_or z k x) push ∙ get_or_append_left old (n ∷ []) x k (omega (arith, less, size)) ∙ so_far k d x less
          | inr ge ↦ let same : k ≡ i = omega (arith, ge, below) in
              ap (λ j. get_or new j x) same ∙ ap (λ z. get_or z i x) push ∙ ap (λ j. get_or (old ++ n ∷ []) j x) (sym size) ∙ get_or-append_seam old n [] x
              ∙ ap of_entry (get_or_default entries i e d within ∙ ap (λ j. get_or entries j d) (sym same))
        ],
      )

  pub column_all : (i : ℕ) (column : List X) → length entries ≤ i → i ≤ length entries → IsFirstColumn of_entry entries i column → IsColumn of_entry entries column
  column_all i column over within (size, all) = record { long = omega (arith, size, over, within); each = λ k d x below. all k d x (omega (arith, below, over)) }

-- ---- the index that has the entries

below_aim : (a b : Entry) → a.part ≡ b.part → a.aim < b.aim → is_lt (entry_cmp a b) ≡ true
below_aim a b same less =
    ap (λ o. is_lt (ordering_then o (text_cmp (a.aim ∷ []) (b.aim ∷ [])))) (equal_from a.part b.part same)
    ∙ ap (λ o. is_lt (ordering_then o (text_cmp [] []))) (less_from a.aim b.aim less)

module _ (entries : List Entry) (index : Index) (has : HasAll entries index) where
  begin_at : (s : ℕ) → s < length index.starts.items → BeginAt entries s (get_or index.starts.items s 0)
  begin_at s less = has.starts.begin s less

  has_room : (e : Entry) → Contains entries e → e.part + 1 < length index.starts.items
  has_room e has_e = has.starts.each e has_e

  -- what stands among the aims of a part is of the part
  part_at : (s k : ℕ) (d : Entry) → IsInPart index.starts.items s k → k < length entries → (get_or entries k d).part ≡ s
  part_at s k d of within = elim (cases_lt (s + 1) (length index.starts.items)) [
    | inl less ↦
        let low = (begin_at s (omega (arith, less))).parts.1 k d of.begins within in
        let high = (begin_at (s + 1) less).parts.0 k d (omega arith) of.ends in omega (arith, low, high)
    | inr past ↦ absurd (none_past index.starts.items s k past of)
  ]

  bound_at : (s : ℕ) → get_or index.starts.items s 0 ≤ length index.aims.items
  bound_at s = elim (cases_lt s (length index.starts.items)) [
    | inl less ↦ let le = (begin_at s less).bound in let size = has.aims.long in omega (arith, le, size)
    | inr past ↦ let none : get_or index.starts.items s 0 ≡ 0 = get_or-eq_default index.starts.items 0 past in omega (arith, none)
  ]

  aims_rise : IsSorted entry_cmp entries → (s : ℕ) → RiseIn index.aims.items (get_or index.starts.items s 0) (get_or index.starts.items (s + 1) 0)
  aims_rise up s i j ge le less =
      let bound = bound_at (s + 1) in
      let size = has.aims.long in
      let d : Entry = record { part = 0; aim = 0; place = 0 } in
      let in_j : j < length entries = omega (arith, less, bound, size) in
      let in_i : i < length entries = omega (arith, le, in_j) in
      let far = sorted_far (λ x y. is_lt (entry_cmp x y)) (ranks_by entry_total (λ (e : Entry). e)) entries up i j d le in_j in
      let one = part_at s i d (record { begins = ge; ends = omega (arith, le, less) }) in_i in
      let two = part_at s j d (record { begins = omega (arith, ge, le); ends = less }) in_j in
      let first : get_or index.aims.items i 0 ≡ (get_or entries i d).aim = has.aims.each i d 0 in_i in
      let second : get_or index.aims.items j 0 ≡ (get_or entries j d).aim = has.aims.each j d 0 in_j in
      elim (cases_lt (get_or entries j d).aim (get_or entries i d).aim) [
        | inl below ↦ let yes_ = below_aim (get_or entries j d) (get_or entries i d) (two ∙ sym one) below in absurd cc
        | inr more ↦ omega (arith, more, first, second)
      ]

  -- an entry is found by its part
  begins : (e : Entry) (k : ℕ) → Contains entries e → k < length entries → (get_or entries k e).part ≡ e.part → IsInPart index.starts.items e.part k
  begins e k is_entry within of = let room = has_room e is_entry in record {
    begins = elim (cases_lt k (get_or index.starts.items e.part 0)) [
      | inl less ↦ let r = (begin_at e.part (omega (arith, room))).parts.0 k e (omega arith) less in absurd (omega (arith, r, of))
      | inr ge ↦ ge
    ];
    ends = elim (cases_lt k (get_or index.starts.items (e.part + 1) 0)) [
      | inl less ↦ less
      | inr ge ↦ let r = (begin_at (e.part + 1) room).parts.1 k e ge within in absurd (omega (arith, r, of))
    ];
  }

  -- the record at a place is that of the entry there, and so it is found
  record_there : (sets : List (List ℕ)) (records laid : List Record) → AreEntries sets records entries → IsColumn (record_of_entry records) entries laid
      → (at : ℕ) (k : Record) → slice_get laid at ≡ Some k → IsFoundAt index (heading_of_record sets k) (aim_of_record sets k) at
  record_there sets records laid are column at k found =
      let size = column.long in
      let in_laid = in_range laid at k found in
      let within : at < length entries = omega (arith, in_laid, size) in
      let d : Entry = record { part = 0; aim = 0; place = 0 } in
      let e = get_or entries at d in
      let has_e : Contains entries e = Contains-get_or entries at d within in
      let is = are.has.only e has_e in
      let kept : is.kept ≡ k = sym (get_so records e.place is.kept no_record is.is_there) ∙ sym (column.each at d no_record within) ∙ get_so laid at k no_record found in
      let same : e ≡ entry_of sets k e.place = is.is_its ∙ ap (λ (r : Record). entry_of sets r e.place) kept in
      let of_part : (get_or entries at e).part ≡ e.part = ap (λ (z : Entry). z.part) (get_or_default entries at e d within) in record {
        in_part = subst (λ p. IsInPart index.starts.items p at) (ap (λ (z : Entry). z.part) same) (begins e at has_e within of_part);
        aim_is = has.aims.each at d 0 within ∙ ap (λ (z : Entry). z.aim) same;
      }

  pub index_made : (sets : List (List ℕ)) (records laid : List Record) → AreEntries sets records entries → IsColumn (record_of_entry records) entries laid → IsIndex sets laid index
  index_made sets records laid are column = record {
    laid_out = record { within = bound_at; rising = aims_rise are.sorted };
    each = record_there sets records laid are column;
  }
