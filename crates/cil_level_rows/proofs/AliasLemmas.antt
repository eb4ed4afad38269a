-- The aliases of sensitivities and of categories, by the entries of declared names.
use Rattle.std.specs.Prelude.{Contains, None, Some, map, nat_eq, slice_get}
use Rattle.std.specs.List.Sorted.{IsStrictlySortedBy}
use Rattle.std.proofs.Common.{◌≡◌, ◌⊎◌, ◌↔◌, ℕ, ◌+◌, ◌<◌, Bool, true, false, ◌&&◌, ◌||◌, List, [], ◌++◌, get_or, length, refl, sym, ◌∙◌, ap, subst, inl, inr, arith}
use Rattle.std.proofs.lemmas.Bool.{and_parts, true≢false}
use Rattle.std.proofs.lemmas.List.Elements.{Contains-append_cases, Contains-append_left, Contains-append_right}
use Rattle.std.proofs.lemmas.Option.{none-some, same_Some}
use Rattle.cil_base.specs.Lists.{Lists, contains_none}
use Rattle.cil_base.specs.MadeLists.{contains_map, from_map}
use Rattle.cil_base.specs.Places.{get_at, in_range, some_at}
use Rattle.cil_syntax.specs.Kinds.{kind_number}
use Rattle.cil_syntax.specs.declared.kind.Keyword.{Keyword}
use Rattle.cil_syntax.specs.declared.kind.Kind.{Kind}
use Rattle.cil_syntax.proofs.KindLemmas.{one_kind, same_kind}
use Rattle.cil_macros.specs.Item.{Item}
use Rattle.cil_names.specs.declared.entry.Entry.{Entry}
use Rattle.cil_names.specs.Declarations.{Declared, Symbol, name_of}
use Rattle.cil_names.specs.Entries.{is_declared_in}
use Rattle.cil_names.specs.Symbols.{is_of, symbol_of}
use Rattle.cil_names.proofs.DeclareDecided.{symbol_by}
use Rattle.cil_known.specs.declared.known.Known.{Known}
use Rattle.cil_known.specs.Known.{IsMemberNumber, IsNumbered, enabled_in}
use Rattle.cil_known.specs.Members.{IsMember, space_of}
use Rattle.cil_known.specs.Numbers.{AreApart, has_section, spelled_of}
use Rattle.cil_known.specs.Spaces.{any_sets}
use Rattle.cil_mls.specs.declared.named.Named.{Named}
use Rattle.cil_mls.specs.Names.{named_cmp}
use Rattle.cil_mls.specs.Ordering.{IsNumberedOrder}
use Rattle.cil_mls.proofs.OrderingLemmas.{its_number, one_number}
use Rattle.cil_ranges.specs.levels_crate.Begun.{AreInverse}
use Rattle.cil_level_rows.specs.AliasEntries.{AreAliasesBelow, AreItems, IsEntryAlias, alias_to}
use Rattle.cil_level_rows.specs.Rows.{IsAliasRow}

and_so : (a b : Bool) → a ≡ true → b ≡ true → (a && b) ≡ true
and_so true b e f = f
and_so false b e f = absurd (let c : false ≡ true = e in cc)

pub or_so : (a b : Bool) → a ≡ true → (a || b) ≡ true
or_so true b e = refl
or_so false b e = absurd (let c : false ≡ true = e in cc)

same_row : (a b : Named) → a.name ≡ b.name → a.place ≡ b.place → a ≡ b
same_row a b name place = λ i. record { name = name i; place = place i }

module _ (k : Known) (alias_kind : Kind) (standing : List (List ℕ)) (places : List ℕ) where
  -- ---- one declared name after another

  pub none_at : AreAliasesBelow k alias_kind standing places 0 []
  none_at a = (λ c. absurd (contains_none a c), λ h. let l = h.1 in absurd (omega (arith, l)))

  pub more_at : (d : ℕ) (old new : List Named) → AreAliasesBelow k alias_kind standing places d old
      → ((a : Named) → Contains new a ↔ (Contains old a ⊎ IsEntryAlias k alias_kind standing places d a)) → AreAliasesBelow k alias_kind standing places (d + 1) new
  more_at d old new so one a = (
    λ c. elim ((one a).0 c) [
      | inl o ↦ let h = (so a).0 o in let l = h.1 in (h.0, omega (arith, l), h.2)
      | inr is ↦ (d, omega arith, is)
    ],
    λ h. (one a).1 (elim (below_or_at h.0 d h.1) [
      | inl l ↦ inl ((so a).1 (h.0, l, h.2))
      | inr e ↦ inr (subst (λ i. IsEntryAlias k alias_kind standing places i a) e h.2)
    ]),
  )
    where
      below_or_at : (i n : ℕ) → i < n + 1 → (i < n) ⊎ (i ≡ n)
      below_or_at i n l = grind arith

  module _ (d : ℕ) (aliases : List Named) where
    abbrev IsLeft : List Named → Type 0
    IsLeft new = (a : Named) → Contains new a ↔ (Contains aliases a ⊎ IsEntryAlias k alias_kind standing places d a)

    none_more : ((a : Named) → IsEntryAlias k alias_kind standing places d a → ⊥) → IsLeft aliases
    none_more none a = (λ c. inl c, λ h. elim h [ inl c ↦ c | inr is ↦ absurd (none a is) ])

    pub no_entry : slice_get k.lookup.names.now d ≡ None → IsLeft aliases
    no_entry none = none_more (λ a is. none-some is.entry (sym none ∙ is.at))

    module _ (e : Entry) (at : slice_get k.lookup.names.now d ≡ Some e) where
      pub no_alias : is_of (enabled_in k) alias_kind e ≡ false → IsLeft aliases
      no_alias differs = none_more (λ a is. true≢false (sym is.is_alias ∙ ap (is_of (enabled_in k) alias_kind) (same_Some is.entry e (sym is.at ∙ at)) ∙ differs))

      pub no_numbers : get_or standing d [] ≡ [] → IsLeft aliases
      no_numbers none = none_more (λ a is. contains_none is.number (subst (λ ns. Contains ns is.number) none is.stands))

      pub all_numbers : is_of (enabled_in k) alias_kind e ≡ true → (numbers : List ℕ) → get_or standing d [] ≡ numbers → (new : List Named)
          → new ≡ aliases ++ map (alias_to places (spelled_of k.lookup.namespaces.now e)) numbers → IsLeft new
      all_numbers is_alias numbers same new pushed a = (
        λ c. elim (Contains-append_cases aliases (map (alias_to places (spelled_of k.lookup.namespaces.now e)) numbers) a (subst (λ ls. Contains ls a) pushed c)) [
          | inl o ↦ inl o
          | inr m ↦ let t = from_map (alias_to places (spelled_of k.lookup.namespaces.now e)) numbers a m in inr (record {
            entry = e;
            at = at;
            is_alias = is_alias;
            named = ap (λ (b : Named). b.name) t.2;
            number = t.0;
            stands = subst (λ ns. Contains ns t.0) (sym same) t.1;
            placed = ap (λ (b : Named). b.place) t.2;
          })
        ],
        λ h. subst (λ ls. Contains ls a) (sym pushed) (elim h [
          | inl o ↦ Contains-append_left aliases (map (alias_to places (spelled_of k.lookup.namespaces.now e)) numbers) a o
          | inr is ↦ Contains-append_right aliases (map (alias_to places (spelled_of k.lookup.namespaces.now e)) numbers) a
              (subst (Contains (map (alias_to places (spelled_of k.lookup.namespaces.now e)) numbers))
              (same_row (alias_to places (spelled_of k.lookup.namespaces.now e) is.number) a (ap (spelled_of k.lookup.namespaces.now) (same_Some e is.entry (sym at ∙ is.at)) ∙ is.named) is.placed)
              (contains_map (alias_to places (spelled_of k.lookup.namespaces.now e)) numbers is.number (subst (λ ns. Contains ns is.number) same is.stands)))
        ]),
      )

  -- ---- in another order

  pub same_aliases : (end : ℕ) (raw sorted : List Named) → ((a : Named) → Contains raw a ↔ Contains sorted a) → AreAliasesBelow k alias_kind standing places end raw → AreAliasesBelow k alias_kind standing places end sorted
  same_aliases end raw sorted moved are a = (λ c. (are a).0 ((moved a).1 c), λ h. (moved a).0 ((are a).1 h))

-- ---- what they are

module _ (k : Known) (xs : List Item) (sections : Kind → List (List ℕ)) (kind : Kind) (names : List (List ℕ)) (sets : List (List ℕ)) (items : AreItems k xs sections kind names sets)
    (section : has_section kind ≡ true) (apart : AreApart k.lookup.names.now (enabled_in k) k.numbers.now) (keyword : Keyword) (numbers : List ℕ) (order : IsNumberedOrder xs (enabled_in k) kind keyword names numbers)
    (places : List ℕ) (inverse : AreInverse numbers places) where
  number_at : (i : ℕ) (t : Symbol) → slice_get order.row i ≡ Some t → (n : ℕ) × (slice_get numbers i ≡ Some n) × IsNumbered names t n
  number_at i t e =
      let l = in_range order.row i t e in
      let len = order.len in
      let (n, at) = some_at numbers i (omega (arith, l, len)) in
      (n, at, order.each i n t at e)

  -- the item with a number is at the place of the number
  item_at : (t : Symbol) (n : ℕ) → Declared xs (enabled_in k) kind t → IsNumbered names t n → slice_get order.row (get_or places n 0) ≡ Some t
  item_at t n declared numbered =
      let (p, within, at) = get_at order.row t ((order.is_order.is_order.items t).1 declared) in
      let (m, at_m, is_m) = number_at p t at in
      let same : m ≡ n = one_number k xs sections kind names sets items.numbered section apart keyword t m n is_m numbered in
      let here : p ≡ get_or places n 0 = sym (inverse p n (at_m ∙ ap Some same)) in
      subst (λ z. slice_get order.row z ≡ Some t) here at

  place_of : (t : Symbol) (n c : ℕ) → IsNumbered names t n → slice_get order.row c ≡ Some t → get_or places n 0 ≡ c
  place_of t n c numbered at =
      let (m, at_m, is_m) = number_at c t at in
      let same : m ≡ n = one_number k xs sections kind names sets items.numbered section apart keyword t m n is_m numbered in
      inverse c n (at_m ∙ ap Some same)

  module _ (alias_kind : Kind) (in_space : (e : Kind) → nat_eq (kind_number e) (kind_number alias_kind) ≡ true → any_sets (space_of kind) (λ j. nat_eq (kind_number e) (kind_number j.kind)) ≡ true)
      (aliases : List Named) (are : AreAliasesBelow k alias_kind sets places (length k.lookup.names.now) aliases) where
    is_row : (a : Named) → Contains aliases a → IsAliasRow xs (enabled_in k) alias_kind kind order.row a
    is_row a c =
        let h = (are a).0 c in
        let is = h.2 in
        let parts = and_parts (nat_eq (kind_number is.entry.kind) (kind_number alias_kind)) (is_declared_in (enabled_in k) is.entry) is.is_alias in
        let (x, is_x, has_kind, is_in, of_name) = items.numbered.known.entries.only (enabled_in k) h.0 is.entry is.at parts.1 in
        let member : IsMemberNumber xs (enabled_in k) kind (sections kind) (symbol_of k.lookup.namespaces.now is.entry) is.number =
        ((items.members h.0 is.entry is.at parts.1 (in_space is.entry.kind parts.0)).members is.number).0 is.stands in
        let numbered : IsNumbered names member.symbol is.number = subst (λ l. IsNumbered l member.symbol is.number) items.numbered.named member.numbered in
        record {
          alias = symbol_of k.lookup.namespaces.now is.entry;
          is_alias = record {
            an_alias = record { declaration = x; declares = is_x; of_kind = has_kind ∙ one_kind is.entry.kind alias_kind parts.0; in_space = is_in; of_name = of_name };
            item = member.symbol;
            member = member.member;
            at = subst (λ z. slice_get order.row z ≡ Some member.symbol) is.placed (item_at member.symbol is.number member.member.declared numbered);
          };
          named = is.named;
        }

    from_row : (a : Named) → IsAliasRow xs (enabled_in k) alias_kind kind order.row a → Contains aliases a
    from_row a is =
        let st = is.is_alias.an_alias in
        let (i, f) = items.numbered.known.entries.each (enabled_in k) st.declaration st.declares in
        let of_kind = same_kind f.entry.kind alias_kind (f.of_kind ∙ st.of_kind) in
        let symbol = symbol_by (symbol_of k.lookup.namespaces.now f.entry) is.alias (f.in_space ∙ st.in_space) (f.of_name ∙ st.of_name) in
        let (n, within, numbered) = its_number k xs sections kind names sets items.numbered section apart keyword is.is_alias.item is.is_alias.member.declared in
        (are a).1 (
          i,
          in_range k.lookup.names.now i f.entry f.at,
          record {
            entry = f.entry;
            at = f.at;
            is_alias = and_so (nat_eq (kind_number f.entry.kind) (kind_number alias_kind)) (is_declared_in (enabled_in k) f.entry) of_kind f.live;
            named = ap name_of symbol ∙ is.named;
            number = n;
            stands = ((items.members i f.entry f.at f.live (in_space f.entry.kind of_kind)).members n).1 (record {
              symbol = is.is_alias.item;
              member = subst (λ u. IsMember xs (enabled_in k) kind u is.is_alias.item) (sym symbol) is.is_alias.member;
              numbered = subst (λ l. IsNumbered l is.is_alias.item n) (sym items.numbered.named) numbered;
            });
            placed = place_of is.is_alias.item n a.place numbered is.is_alias.at;
          },
        )

    pub rows_listed : IsStrictlySortedBy named_cmp aliases → Lists named_cmp (IsAliasRow xs (enabled_in k) alias_kind kind order.row) aliases
    rows_listed rising = record { rising = rising; members = λ a. (is_row a, from_row a) }
