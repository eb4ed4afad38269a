-- Records in the order of their index, and the same rules in the order of the table.
use Rattle.std.specs.Prelude.{◌↔◌, Bool, Contains, IsBitSet, map, set, slice_get}
use Rattle.std.proofs.Common.{◌≡◌, ℕ, ◌+◌, ◌<◌, ◌≤◌, List, length, get_or, sym, ◌∙◌, ap, subst, inl, inr, arith}
use Rattle.std.proofs.lemmas.Bool.{cases_lt}
use Rattle.std.proofs.lemmas.Bool.Decides.{eqb_tells}
use Rattle.std.proofs.lemmas.List.{get_or-map, get_or-set_other, get_or-set_same, get_or_default, length-map, length-set, same_lists}
use Rattle.std.proofs.lemmas.List.Elements.{Contains-get_or}
use Rattle.cil_base.proofs.AtPlace.{made_at}
use Rattle.cil_base.specs.MadeLists.{contains_map, from_map}
use Rattle.cil_base.specs.Places.{in_range, is_there, not_there}
use Rattle.cil_rules.specs.Covers.{HasCover}
use Rattle.cil_rules.specs.Rule.{Rule}
use Rattle.cil_index.specs.declared.key.Entry.{Entry}
use Rattle.cil_index.specs.declared.record.Record.{Record}
use Rattle.cil_index.specs.Entries.{AreEntries, IsColumn}
use Rattle.cil_index.specs.Found.{CoversAt}
use Rattle.cil_index.specs.Layout.{AreAllPlaced, AreOfFirst, IsOrder, IsPlaced, in_order, no_record, record_of_entry}
use Rattle.cil_index.proofs.CoverLemmas.{at_none}

-- ---- where the entries of places stand, one after another

module _ (count : ℕ) (entries : List Entry) where
  -- the places of the first entries have their entries
  pub record AreFirstPlaced (i : ℕ) (order : List ℕ) : Type 0 where
    pub long : length order ≡ count
    pub each : (k : ℕ) (d : Entry) → k < i → k < length entries → IsPlaced entries order (get_or entries k d).place

  pub placed_none : (order : List ℕ) → length order ≡ count → AreFirstPlaced 0 order
  placed_none order long = record { long = long; each = λ k d below within. absurd (omega (arith, below)) }

  -- the place of one entry more is given to it, also where it was another's
  pub placed_more : AreOfFirst count entries → (i : ℕ) (e : Entry) (old : List ℕ) → i < length entries → AreFirstPlaced i old
      → AreFirstPlaced (i + 1) (set old (get_or entries i e).place i)
  placed_more are i e old inside so_far = record {
    long = length-set old here i ∙ so_far.long;
    each = λ k d below within. elim (eqb_tells (get_or entries k d).place here) [
      | inl (t, is) ↦ subst (IsPlaced entries (set old here i)) (sym is) last
      | inr (t, differs) ↦ elim (cases_lt k i) [
        | inl less ↦ before (get_or entries k d).place differs (so_far.each k d less within)
        | inr ge ↦ let same : k ≡ i = omega (arith, below, ge) in
            absurd (differs (ap (λ (z : Entry). z.place) (ap (λ j. get_or entries j d) same ∙ get_or_default entries i d e inside)))
      ]
    ];
  }
    where
      here : ℕ
      here = (get_or entries i e).place

      last : IsPlaced entries (set old here i) here
      last =
          let long = so_far.long in
          let room = are (get_or entries i e) (Contains-get_or entries i e inside) in
          let at : get_or (set old here i) here 0 ≡ i = get_or-set_same old here i 0 (omega (arith, room, long)) in record {
            within = subst (λ n. n < length entries) (sym at) inside;
            same = λ d. ap (λ n. (get_or entries n d).place) at ∙ ap (λ (z : Entry). z.place) (get_or_default entries i d e inside);
          }

      before : (place : ℕ) → (place ≡ here → ⊥) → IsPlaced entries old place → IsPlaced entries (set old here i) place
      before place differs was =
          let at : get_or (set old here i) place 0 ≡ get_or old place 0 = get_or-set_other old here place i 0 differs in record {
            within = subst (λ n. n < length entries) (sym at) was.within;
            same = λ d. ap (λ n. (get_or entries n d).place) at ∙ was.same d;
          }

  pub placed_all : (i : ℕ) (order : List ℕ) → length entries ≤ i → AreFirstPlaced i order → AreAllPlaced count entries order
  placed_all i order over all = record {
    long = all.long;
    each = λ e (k, within, is). subst (λ (z : Entry). IsPlaced entries order z.place) is (all.each k e (omega (arith, within, over)) within);
  }

-- ---- the order of the table

module _ (sets : List (List ℕ)) (records : List Record) (entries : List Entry) (are : AreEntries sets records entries) where
  -- entries are of records that are there
  pub of_first : AreOfFirst (length records) entries
  of_first e has = let is = are.has.only e has in in_range records e.place is.kept is.is_there

  module _ (laid : List Record) (column : IsColumn (record_of_entry records) entries laid) (order : List ℕ) (placed : AreAllPlaced (length records) entries order) where
    -- each place of a record has its entry
    placed_at : (place : ℕ) → place < length records → IsPlaced entries order place
    placed_at place within = placed.each _ (are.has.each place (get_or records place no_record) (is_there records place no_record within))

    record_at : (place : ℕ) → place < length records → get_or laid (get_or order place 0) no_record ≡ get_or records place no_record
    record_at place within =
        let d : Entry = record { part = 0; aim = 0; place = 0 } in
        let there = placed_at place within in
        column.each (get_or order place 0) d no_record there.within ∙ ap (λ n. get_or records n no_record) (there.same d)

    -- the order gives back the records as they were
    pub records_back : in_order laid order ≡ records
    records_back =
        let size = length-map order (λ at. get_or laid at no_record) in
        let long = placed.long in
        same_lists (in_order laid order) records (size ∙ long) (λ k d below.
        let within : k < length records = omega (arith, below, size, long) in
        get_or-map (λ at. get_or laid at no_record) order k 0 d (omega (arith, within, long)) ∙ record_at k within ∙ get_or_default records k no_record d within)

    -- and names each of those that were put in the order of the entries
    pub order_is : IsOrder laid order
    order_is = record {
      within = λ at (k, below, is).
          let long = placed.long in
          let size = column.long in
          let there = (placed_at k (omega (arith, below, long))).within in
          let same : get_or order k 0 ≡ at = get_or_default order k 0 at below ∙ is in omega (arith, there, same, size);
      all = λ r (k, below, is).
          let size = column.long in
          let d : Entry = record { part = 0; aim = 0; place = 0 } in
          let inside : k < length entries = omega (arith, below, size) in
          let made : get_or records (get_or entries k d).place no_record ≡ r = sym (column.each k d r inside) ∙ is in
          subst (λ (rs : List Record). Contains rs r) (sym records_back) (subst (Contains records) made
          (Contains-get_or records (get_or entries k d).place no_record (of_first (get_or entries k d) (Contains-get_or entries k d inside))));
    }

-- ---- the same rules in both orders

module _ (f : Record → Rule) (records : List Record) (order : List ℕ) (is : IsOrder records order) (on : ℕ → Bool) (source target class_ : ℕ) where
  from_order : (r : Record) → Contains (in_order records order) r → Contains records r
  from_order r c =
      let (at, has, made) = from_map (λ n. get_or records n no_record) order r c in
      subst (Contains records) made (Contains-get_or records at no_record (is.within at has))

  -- what covers in the one order does in the other
  same_cover : (bit : ℕ) → HasCover on (map f records) source target class_ bit ↔ HasCover on (map f (in_order records order)) source target class_ bit
  same_cover bit = (
    λ c. let (r, has, made) = from_map f records c.rule c.is_rule in
        record { rule = c.rule; is_rule = subst (Contains (map f (in_order records order))) made (contains_map f (in_order records order) r (is.all r has)); covers = c.covers },
    λ c. let (r, has, made) = from_map f (in_order records order) c.rule c.is_rule in
        record { rule = c.rule; is_rule = subst (Contains (map f records)) made (contains_map f records r (from_order r has)); covers = c.covers },
  )

  pub in_table : (mask : ℕ) → ((bit : ℕ) → IsBitSet mask bit ↔ HasCover on (map f records) source target class_ bit)
      → (bit : ℕ) → IsBitSet mask bit ↔ HasCover on (map f (in_order records order)) source target class_ bit
  in_table mask tells bit = (λ s. (same_cover bit).0 ((tells bit).0 s), λ c. (tells bit).1 ((same_cover bit).1 c))

  rule_there : (place at : ℕ) → place < length order → at ≡ get_or order place at → slice_get (map f records) at ≡ slice_get (map f (in_order records order)) place
  rule_there place at within here =
      let inside : at < length records = is.within at (place, within, sym here) in
      let long = length-map order (λ n. get_or records n no_record) in
      let there : get_or records at no_record ≡ get_or (in_order records order) place (get_or records at no_record) =
      sym (get_or-map (λ n. get_or records n no_record) order place at (get_or records at no_record) within ∙ ap (λ n. get_or records n no_record) (sym here)) in
      made_at f records at (get_or records at no_record) inside (get_or_default records at no_record (get_or records at no_record) inside)
      ∙ sym (made_at f (in_order records order) place (get_or records at no_record) (omega (arith, within, long)) there)

  -- the rule at a place of the table is that where the order says
  pub rule_at : (place at mask : ℕ) → place < length order → at ≡ get_or order place at → ((bit : ℕ) → IsBitSet mask bit ↔ CoversAt on (map f records) source target class_ at bit)
      → (bit : ℕ) → IsBitSet mask bit ↔ CoversAt on (map f (in_order records order)) source target class_ place bit
  rule_at place at mask within here tells bit = (
    λ s. let c = (tells bit).0 s in record { rule = c.rule; is_there = sym (rule_there place at within here) ∙ c.is_there; covers = c.covers },
    λ c. (tells bit).1 (record { rule = c.rule; is_there = rule_there place at within here ∙ c.is_there; covers = c.covers }),
  )

  -- there is none behind the last place
  pub rule_past : (place : ℕ) → length order ≤ place → (bit : ℕ) → IsBitSet 0 bit ↔ CoversAt on (map f (in_order records order)) source target class_ place bit
  rule_past place over =
      let size = length-map order (λ n. get_or records n no_record) in
      let long = length-map (in_order records order) f in
      at_none on (map f (in_order records order)) place source target class_ (not_there (map f (in_order records order)) place (omega (arith, over, size, long)))

pub order_long : (f : Record → Rule) (records : List Record) (order : List ℕ) → length order ≡ length (map f (in_order records order))
order_long f records order = sym (length-map (in_order records order) f ∙ length-map order (λ at. get_or records at no_record))
