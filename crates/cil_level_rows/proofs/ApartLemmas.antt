-- A name that can be written stands for one place: that of one item, by its own name or by one alias.
use Rattle.std.specs.Prelude.{Contains, Some, reverse, slice_get}
use Rattle.std.specs.List.{join_with_byte}
use Rattle.std.specs.declared.cmp.Ordering.{Ordering}
use Rattle.std.specs.declared.cmp.Ordering.TheVariants.{Less, Equal, Greater}
use Rattle.std.specs.Ordering.{ordering_then}
use Rattle.std.specs.List.{AllByRecursion}
use Rattle.std.specs.List.Sorted.{IsStrictlySortedBy}
use Rattle.std.proofs.Common.{◌≡◌, ◌↔◌, ◌==◌, ℕ, zero, suc, ◌+◌, ◌<◌, ◌≤◌, true, false, List, [], ◌∷◌, ◌++◌, length, map, refl, sym, ◌∙◌, ap, subst, inl, inr, append_assoc, arith}
use Rattle.std.proofs.lemmas.Bool.{cases_Bool, true≢false}
use Rattle.std.proofs.lemmas.List.{reverse-append}
use Rattle.std.proofs.lemmas.List.Elements.{All-cons, Contains-append_cases, Contains-append_left, Contains-append_right}
use Rattle.std.proofs.lemmas.Map.Lookups.{exact_bytes}
use Rattle.std.proofs.lemmas.Option.{same_Some}
use Rattle.cil_base.specs.Decided.{Decided}
use Rattle.cil_base.specs.Listing.{listing_of}
use Rattle.cil_base.specs.Lists.{Lists, contains_cases, contains_here, contains_later, contains_none, not_below_itself}
use Rattle.cil_base.specs.Paths.{both_equal, same_by}
use Rattle.cil_base.specs.Places.{contains_at, get_contains, in_range, none_some, some_same}
use Rattle.cil_faults.specs.Namespaces.{Namespace, qualified}
use Rattle.cil_syntax.specs.Kinds.{is_wanted}
use Rattle.cil_syntax.specs.declared.kind.Kind.{Kind}
use Rattle.cil_syntax.specs.declared.kind.Sign.{Sign}
use Rattle.cil_macros.specs.Item.{Item, OptSet}
use Rattle.cil_names.specs.declared.entry.Entry.{Entry}
use Rattle.cil_names.specs.Declarations.{Declared, Symbol, name_of}
use Rattle.cil_names.proofs.AnswerLemmas.{one_entry}
use Rattle.cil_names.proofs.CandidateLemmas.{they_are}
use Rattle.cil_names.proofs.DeclareDecided.{symbol_by}
use Rattle.cil_known.specs.declared.known.Known.{Known}
use Rattle.cil_known.specs.Known.{IsKnown, enabled_in}
use Rattle.cil_mls.specs.declared.named.Named.{Named}
use Rattle.cil_mls.specs.LevelTexts.{IsWithout}
use Rattle.cil_mls.specs.Names.{AreNames, named_cmp}
use Rattle.cil_mls.proofs.NameLemmas.{named_once}
use Rattle.cil_mls.proofs.SymbolLemmas.{get_unmap}
use Rattle.cil_labels.specs.Index.{HasIndex}
use Rattle.cil_labels.specs.LevelTable.{IsWritable, NamesPlace}
use Rattle.cil_labels.specs.Rows.{IsRow, row_cmp}
use Rattle.cil_labels.proofs.IndexLemmas.{rows_are_index}
use Rattle.cil_labels.proofs.RowLemmas.{row_total, same_row}
use Rattle.cil_level_rows.specs.Rows.{IsAliasRow}

-- ---- symbols

joined_last : (y : List ℕ) (ys : List (List ℕ)) (x : List ℕ) → join_with_byte 46 (y ∷ ys ++ x ∷ []) ≡ join_with_byte 46 (y ∷ ys) ++ 46 ∷ x
joined_last y [] x = refl
joined_last y (z ∷ zs) x = ap (λ l. y ++ 46 ∷ l) (joined_last z zs x) ∙ sym (append_assoc y (46 ∷ join_with_byte 46 (z ∷ zs)) (46 ∷ x))

joined_behind : (ys : List (List ℕ)) (z x : List ℕ) → join_with_byte 46 ((ys ++ z ∷ []) ++ x ∷ []) ≡ join_with_byte 46 (ys ++ z ∷ []) ++ 46 ∷ x
joined_behind [] z x = joined_last z [] x
joined_behind (y ∷ ys) z x = joined_last y (ys ++ z ∷ []) x

qualified_inner : (name outer : List ℕ) (n : Namespace) → qualified (name ∷ outer ∷ n) ≡ qualified (outer ∷ n) ++ 46 ∷ name
qualified_inner name outer n =
    ap (join_with_byte 46) (reverse-append (name ∷ []) (outer ∷ n) ∙ ap (λ l. l ++ name ∷ []) (reverse-append (outer ∷ []) n))
    ∙ joined_behind (reverse n) outer name
    ∙ ap (λ l. join_with_byte 46 l ++ 46 ∷ name) (sym (reverse-append (outer ∷ []) n))

has_dot : (xs ys : List ℕ) → IsWithout 46 (xs ++ 46 ∷ ys) → ⊥
has_dot [] ys w = let e : true ≡ false = w 0 0 (omega arith) in cc
has_dot (x ∷ xs) ys w = has_dot xs ys (λ k d l. w (suc k) d (omega (arith, l)))

-- a name without a dot is that of a symbol of the global namespace
global_symbol : (t : Symbol) → IsWithout 46 (name_of t) → t ≡ record { space = []; name = name_of t }
global_symbol t without = by t.space refl where
  by : (n : Namespace) → t.space ≡ n → t ≡ record { space = []; name = name_of t }
  by [] e = symbol_by t (record { space = []; name = name_of t }) e (sym (ap (λ n. qualified (t.name ∷ n)) e))
  by (y ∷ ys) e = absurd (has_dot (qualified (y ∷ ys)) t.name (subst (IsWithout 46) (ap (λ n. qualified (t.name ∷ n)) e ∙ qualified_inner t.name y ys) without))

-- two symbols with one such name are one
one_symbol : (t u : Symbol) (text : List ℕ) → IsWithout 46 text → name_of t ≡ text → name_of u ≡ text → t ≡ u
one_symbol t u text without a b =
    let s : Symbol = record { space = []; name = text } in
    let first : t ≡ s = global_symbol t (subst (IsWithout 46) (sym a) without) ∙ ap (λ (n : List ℕ). record { space = []; name = n }) a in
    let second : u ≡ s = global_symbol u (subst (IsWithout 46) (sym b) without) ∙ ap (λ (n : List ℕ). record { space = []; name = n }) b in
    first ∙ sym second

-- a symbol is not declared with two kinds that one word may name
module _ (k : Known) (xs : List Item) (sections : Kind → List (List ℕ)) (known : IsKnown k xs sections) (kind other : Kind) (sign : Sign) (wanted : is_wanted sign kind ≡ true) (too : is_wanted sign other ≡ true) (differ : kind ≡ other → ⊥) where
  pub kinds_apart : (t : Symbol) → Declared xs (enabled_in k) kind t → Declared xs (enabled_in k) other t → ⊥
  kinds_apart t a b =
      let (i, f) = known.entries.each (enabled_in k) a.declaration a.declares in
      let (j, g) = known.entries.each (enabled_in k) b.declaration b.declares in
      let of_f : f.entry.kind ≡ kind = f.of_kind ∙ a.of_kind in
      let of_g : g.entry.kind ≡ other = g.of_kind ∙ b.of_kind in
      let same : i ≡ j =
      one_entry k.lookup.namespaces.now known.namespaces k.lookup.names.now known.entries.ordered t.name sign t.space i j f.entry g.entry f.at g.at
      (they_are k.lookup.namespaces.now t.name sign t.space f.entry (f.in_space ∙ a.in_space) (f.of_name ∙ a.of_name) (ap (is_wanted sign) of_f ∙ wanted))
      (they_are k.lookup.namespaces.now t.name sign t.space g.entry (g.in_space ∙ b.in_space) (g.of_name ∙ b.of_name) (ap (is_wanted sign) of_g ∙ too)) in
      let one : f.entry ≡ g.entry = same_Some f.entry g.entry (sym f.at ∙ ap (slice_get k.lookup.names.now) same ∙ g.at) in
      differ (sym of_f ∙ ap (λ (e : Entry). e.kind) one ∙ of_g)

-- ---- names that can be written

without_decided : (b : ℕ) (text : List ℕ) → Decided (IsWithout b text)
without_decided b [] = inl (λ k d l. absurd (omega (arith, l)))
without_decided b (x ∷ xs) = elim (cases_Bool (x == b)) [
  | inl t ↦ inr (λ w. true≢false (sym t ∙ w 0 x (omega arith)))
  | inr f ↦ elim (without_decided b xs) [
    | inl w ↦ inl (All-cons (λ y. (y == b) ≡ false) x xs f w)
    | inr n ↦ inr (λ w. n (λ k d l. w (suc k) d (omega (arith, l))))
  ]
]

writable_decided : (text : List ℕ) → Decided (IsWritable text)
writable_decided text = elim (without_decided 45 text) [
  | inl h ↦ elim (without_decided 46 text) [ inl d ↦ inl (record { no_hyphen = h; no_dot = d }) | inr n ↦ inr (λ w. n w.no_dot) ]
  | inr n ↦ inr (λ w. n w.no_hyphen)
]

-- of some rows those whose names can be written
pub record Kept (rows : List Named) : Type 0 where
  pub list : List Named
  pub members : (r : Named) → Contains list r ↔ (Contains rows r × IsWritable r.name)

kept_rows : (rows : List Named) → Kept rows
kept_rows [] = record { list = []; members = λ r. (λ c. absurd (contains_none r c), λ h. h.0) }
kept_rows (x ∷ xs) = elim (writable_decided x.name) [
  | inl w ↦ let rest = kept_rows xs in record {
    list = x ∷ rest.list;
    members = λ r. (
      λ c. elim (contains_cases r x rest.list c) [
        | inl e ↦ (subst (Contains (x ∷ xs)) e (contains_here x xs), subst (λ (s : Named). IsWritable s.name) e w)
        | inr d ↦ let m = (rest.members r).0 d in (contains_later r x xs m.0, m.1)
      ],
      λ h. elim (contains_cases r x xs h.0) [
        | inl e ↦ subst (Contains (x ∷ rest.list)) e (contains_here x rest.list)
        | inr d ↦ contains_later r x rest.list ((rest.members r).1 (d, h.1))
      ],
    );
  }
  | inr n ↦ let rest = kept_rows xs in record {
    list = rest.list;
    members = λ r. (
      λ c. let m = (rest.members r).0 c in (contains_later r x xs m.0, m.1),
      λ h. elim (contains_cases r x xs h.0) [
        | inl e ↦ absurd (n (subst (λ (s : Named). IsWritable s.name) (sym e) h.1))
        | inr d ↦ (rest.members r).1 (d, h.1)
      ],
    );
  }
]

-- names with their places, from this place on
rows_from : ℕ → List (List ℕ) → List Named
rows_from i [] = []
rows_from i (x ∷ xs) = record { name = x; place = i } ∷ rows_from (suc i) xs

in_rows : (i : ℕ) (names : List (List ℕ)) (r : Named) → Contains (rows_from i names) r → (n : ℕ) × (r.place ≡ n + i) × (slice_get names n ≡ Some r.name)
unfolding rows_from
in_rows i [] r c = absurd (contains_none r c)
in_rows i (x ∷ xs) r c = elim (contains_cases r (record { name = x; place = i }) (rows_from (suc i) xs) c) [
  | inl e ↦ (0, (let p : i ≡ r.place = ap (λ (s : Named). s.place) e in omega (arith, p)), ap Some (ap (λ (s : Named). s.name) e))
  | inr d ↦ let h = in_rows (suc i) xs r d in let p = h.1 in (suc h.0, omega (arith, p), h.2)
]

at_rows : (i : ℕ) (names : List (List ℕ)) (n : ℕ) (r : Named) → r.place ≡ n + i → slice_get names n ≡ Some r.name → Contains (rows_from i names) r
unfolding rows_from
at_rows i [] n r p e = absurd (none_some r.name e)
at_rows i (x ∷ xs) zero r p e =
    subst (Contains (rows_from i (x ∷ xs))) (sym (same_row r (record { name = x; place = i }) (sym (some_same x r.name e)) (omega (arith, p)))) (contains_here (record { name = x; place = i }) (rows_from (suc i) xs))
at_rows i (x ∷ xs) (suc n) r p e = contains_later r (record { name = x; place = i }) (rows_from (suc i) xs) (at_rows (suc i) xs n r (omega (arith, p)) e)

module _ (names : List (List ℕ)) (aliases : List Named) where
  listed_rows : (r : Named) → Contains (rows_from 0 names ++ aliases) r → IsWritable r.name → IsRow names aliases r
  listed_rows r c w = elim (Contains-append_cases (rows_from 0 names) aliases r c) [
    | inl o ↦ let h = in_rows 0 names r o in let p = h.1 in let same : h.0 ≡ r.place = omega (arith, p) in record { writable = w; named = inl (subst (λ n. slice_get names n ≡ Some r.name) same h.2) }
    | inr a ↦ record { writable = w; named = inr a }
  ]

  rows_listed : (r : Named) → IsRow names aliases r → Contains (rows_from 0 names ++ aliases) r
  rows_listed r is = elim is.named [
    | inl at ↦ Contains-append_left (rows_from 0 names) aliases r (at_rows 0 names r.place r (omega arith) at)
    | inr a ↦ Contains-append_right (rows_from 0 names) aliases r a
  ]

  -- where each name that can be written stands for one place, rows that rise have names that rise
  module _ (one : (text : List ℕ) (n m : ℕ) → NamesPlace names aliases text n → NamesPlace names aliases text m → n ≡ m) where
    by_names : (o p : Ordering) → ordering_then o p ≡ Less → (o ≡ Equal → ⊥) → o ≡ Less
    by_names Less p e n = refl
    by_names Equal p e n = absurd (n refl)
    by_names Greater p e n = e

    less_name : (r s : Named) → IsRow names aliases r → IsRow names aliases s → row_cmp r s ≡ Less → named_cmp r s ≡ Less
    less_name r s a b e = by_names (named_cmp r s) _ e (λ q.
        let name : r.name ≡ s.name = exact_bytes r.name s.name q in
        let place : r.place ≡ s.place = one s.name r.place s.place (subst (λ t. NamesPlace names aliases t r.place) name a) b in
        not_below_itself row_cmp row_total s (subst (λ (x : Named). row_cmp x s ≡ Less) (same_row r s name place) e))

    names_rise : (rows : List Named) → ((r : Named) → Contains rows r → IsRow names aliases r) → IsStrictlySortedBy row_cmp rows → IsStrictlySortedBy named_cmp rows
    unfolding IsStrictlySortedBy
    names_rise [] are up = tt
    names_rise (r ∷ rs) are up = (all_less rs (λ s c. c) up.0, names_rise rs (λ s c. are s (contains_later s r rs c)) up.1)
      where
        all_less : (ss : List Named) → ((s : Named) → Contains ss s → Contains rs s) → AllByRecursion (λ s. row_cmp r s ≡ Less) ss → AllByRecursion (λ s. named_cmp r s ≡ Less) ss
        all_less [] in_rs all = tt
        all_less (s ∷ ss) in_rs all =
            (less_name r s (are r (contains_here r rs)) (are s (contains_later s r rs (in_rs s (contains_here s ss)))) all.0, all_less ss (λ t c. in_rs t (contains_later t s ss c)) all.1)

    pub has_index : (count : ℕ) → ((text : List ℕ) (n : ℕ) → NamesPlace names aliases text n → n < count) → HasIndex count names aliases
    has_index count within =
        let kept = kept_rows (rows_from 0 names ++ aliases) in
        let listing = listing_of row_cmp row_total one_row (IsRow names aliases) kept.list (λ r c. let m = (kept.members r).0 c in listed_rows r m.0 m.1) (λ r is. (kept.members r).1 (rows_listed r is, is.writable)) in
        let are : AreNames count listing.list = record {
          rising = names_rise listing.list (λ r c. (listing.lists.members r).0 c) listing.lists.rising;
          within = λ k d l. let is = (listing.lists.members _).0 (contains_at listing.list k _ d l refl) in within _ _ is;
        } in
        (listing.list, rows_are_index count names aliases listing.list listing.lists are)
      where
        one_row : (a b : Named) → row_cmp a b ≡ Equal → a ≡ b
        one_row a b e = let both = both_equal _ _ e in same_row a b (exact_bytes _ _ both.0) (same_by _ _ both.1)

-- ---- one place

module _ (xs : List Item) (s : OptSet) (kind other : Kind) (row : List Symbol) (once : (i j : ℕ) (x : Symbol) → slice_get row i ≡ Some x → slice_get row j ≡ Some x → i ≡ j) (items : (x : Symbol) → Contains row x → Declared xs s kind x)
    (apart : (t : Symbol) → Declared xs s kind t → Declared xs s other t → ⊥) (aliases : List Named) (listed : Lists named_cmp (IsAliasRow xs s other kind row) aliases) where
  is_item : (text : List ℕ) (n : ℕ) → slice_get (map name_of row) n ≡ Some text → (t : Symbol) × (slice_get row n ≡ Some t) × (name_of t ≡ text)
  is_item text n at = get_unmap name_of row n text at

  no_alias : (text : List ℕ) (n m : ℕ) → IsWithout 46 text → slice_get (map name_of row) n ≡ Some text → Contains aliases (record { name = text; place = m }) → ⊥
  no_alias text n m without at c =
      let (t, there, named) = is_item text n at in
      let is = (listed.members (record { name = text; place = m })).0 c in
      let same : t ≡ is.alias = one_symbol t is.alias text without named is.named in
      apart is.alias (subst (Declared xs s kind) same (items t (get_contains row n t there))) is.is_alias.an_alias

  one_place : (text : List ℕ) (n m : ℕ) → NamesPlace (map name_of row) aliases text n → NamesPlace (map name_of row) aliases text m → n ≡ m
  one_place text n m a b = elim a.named [
    | inl p ↦ elim b.named [
      | inl q ↦
          let (t, at_t, named_t) = is_item text n p in
          let (u, at_u, named_u) = is_item text m q in
          once n m u (at_t ∙ ap Some (one_symbol t u text a.writable.no_dot named_t named_u)) at_u
      | inr d ↦ absurd (no_alias text n m a.writable.no_dot p d)
    ]
    | inr c ↦ elim b.named [
      | inl q ↦ absurd (no_alias text m n a.writable.no_dot q c)
      | inr d ↦ named_once aliases listed.rising text n m (record { row = record { name = text; place = n }; is_row = c; named = refl; placed = refl }) (record { row = record { name = text; place = m }; is_row = d; named = refl; placed = refl })
    ]
  ]

  place_within : (count : ℕ) → length row ≤ count → (text : List ℕ) (n : ℕ) → NamesPlace (map name_of row) aliases text n → n < count
  place_within count few text n p = elim p.named [
    | inl at ↦ let (t, there, named) = is_item text n at in let l = in_range row n t there in omega (arith, l, few)
    | inr c ↦ let is = (listed.members (record { name = text; place = n })).0 c in let l = in_range row n is.is_alias.item is.is_alias.at in omega (arith, l, few)
  ]

  pub index_of_row : (count : ℕ) → length row ≤ count → HasIndex count (map name_of row) aliases
  index_of_row count few = has_index (map name_of row) aliases one_place count (place_within count few)
