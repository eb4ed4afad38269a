-- The aliases of types, by the entries of declared names.
use Rattle.std.specs.Prelude.{Contains, None, Some, map, nat_eq, slice_get}
use Rattle.std.specs.List.Retain.{DiffersFromLast, IsFiltered}
use Rattle.std.specs.List.Sorted.{IsPermutation, IsSorted}
use Rattle.std.specs.Ordering.{eq_by_cmp, nat_cmp}
use Rattle.std.proofs.Common.{◌≡◌, ◌⊎◌, ◌↔◌, ℕ, ◌+◌, ◌<◌, Bool, true, false, ◌&&◌, ◌||◌, List, [], ◌++◌, get_or, length, refl, sym, ◌∙◌, ap, subst, inl, inr, arith}
use Rattle.std.proofs.lemmas.Bool.{and_parts, true≢false}
use Rattle.std.proofs.lemmas.List.Elements.{Contains-append_cases, Contains-append_left, Contains-append_right}
use Rattle.std.proofs.lemmas.Option.{none-some, same_Some}
use Rattle.cil_base.specs.Lists.{Lists, contains_none}
use Rattle.cil_base.specs.MadeLists.{contains_map, from_map}
use Rattle.cil_base.specs.Places.{in_range}
use Rattle.cil_base.proofs.SortedLists.{sorted_list}
use Rattle.cil_syntax.specs.Kinds.{kind_number}
use Rattle.cil_syntax.specs.declared.kind.Kind.{Kind}
use Rattle.cil_syntax.specs.declared.kind.Kind.TheVariants as kinds
use Rattle.cil_syntax.proofs.KindLemmas.{one_kind, same_kind}
use Rattle.cil_macros.specs.Item.{Item}
use Rattle.cil_names.specs.declared.entry.Entry.{Entry}
use Rattle.cil_known.specs.declared.known.Known.{Known}
use Rattle.cil_names.specs.Declarations.{name_of}
use Rattle.cil_names.specs.Entries.{is_declared_in}
use Rattle.cil_known.specs.Known.{HaveMembers, IsKnown, IsMemberNumber, enabled_in}
use Rattle.cil_known.specs.Numbers.{spelled_of}
use Rattle.cil_names.specs.Symbols.{is_of, symbol_of}
use Rattle.cil_names.proofs.DeclareDecided.{symbol_by}
use Rattle.cil_tables.specs.declared.tables.Alias.{Alias}
use Rattle.cil_tables.specs.AliasRows.{AreAliasesAt, IsAliasAt, alias_to}
use Rattle.cil_tables.specs.Aliases.{IsAlias}
use Rattle.cil_tables.specs.Table.{alias_cmp, alias_total, one_alias, same_alias}

and_so : (a b : Bool) → a ≡ true → b ≡ true → (a && b) ≡ true
and_so true b e f = f
and_so false b e f = absurd (let c : false ≡ true = e in cc)

or_so : (a b : Bool) → a ≡ true → (a || b) ≡ true
or_so true b e = refl
or_so false b e = absurd (let c : false ≡ true = e in cc)

module _ (k : Known) (types : List (List ℕ)) where
  -- ---- one declared name after another

  pub none_at : AreAliasesAt k types 0 []
  none_at a = (λ c. absurd (contains_none a c), λ h. let l = h.1 in absurd (omega (arith, l)))

  pub more_at : (d : ℕ) (old new : List Alias) → AreAliasesAt k types d old → ((a : Alias) → Contains new a ↔ (Contains old a ⊎ IsAliasAt k types d a)) → AreAliasesAt k types (d + 1) new
  more_at d old new so one a = (
    λ c. elim ((one a).0 c) [
      | inl o ↦ let h = (so a).0 o in let l = h.1 in (h.0, omega (arith, l), h.2)
      | inr is ↦ (d, omega arith, is)
    ],
    λ h. (one a).1 (elim (below_or_at h.0 d h.1) [
      | inl l ↦ inl ((so a).1 (h.0, l, h.2))
      | inr e ↦ inr (subst (λ i. IsAliasAt k types i a) e h.2)
    ]),
  )
    where
      below_or_at : (i n : ℕ) → i < n + 1 → (i < n) ⊎ (i ≡ n)
      below_or_at i n l = grind arith

  module _ (d : ℕ) (aliases : List Alias) where
    abbrev IsLeft : List Alias → Type 0
    IsLeft new = (a : Alias) → Contains new a ↔ (Contains aliases a ⊎ IsAliasAt k types d a)

    none_more : ((a : Alias) → IsAliasAt k types d a → ⊥) → IsLeft aliases
    none_more none a = (λ c. inl c, λ h. elim h [ inl c ↦ c | inr is ↦ absurd (none a is) ])

    pub no_entry : slice_get k.lookup.names.now d ≡ None → IsLeft aliases
    no_entry none = none_more (λ a is. none-some is.entry (sym none ∙ is.at))

    module _ (e : Entry) (at : slice_get k.lookup.names.now d ≡ Some e) where
      pub no_alias : is_of (enabled_in k) kinds.TypeAlias e ≡ false → IsLeft aliases
      no_alias differs = none_more (λ a is. true≢false (sym is.is_alias ∙ ap (is_of (enabled_in k) kinds.TypeAlias) (same_Some is.entry e (sym is.at ∙ at)) ∙ differs))

      pub no_targets : get_or types d [] ≡ [] → IsLeft aliases
      no_targets none = none_more (λ a is. contains_none a.target (subst (λ ns. Contains ns a.target) none is.target))

      pub all_targets : is_of (enabled_in k) kinds.TypeAlias e ≡ true → (targets : List ℕ) → get_or types d [] ≡ targets → (new : List Alias)
          → new ≡ aliases ++ map (alias_to (spelled_of k.lookup.namespaces.now e)) targets → IsLeft new
      all_targets is_alias targets same new pushed a = (
        λ c. elim (Contains-append_cases aliases (map (alias_to (spelled_of k.lookup.namespaces.now e)) targets) a (subst (λ ls. Contains ls a) pushed c)) [
          | inl o ↦ inl o
          | inr m ↦ let t = from_map (alias_to (spelled_of k.lookup.namespaces.now e)) targets a m in inr (record {
            entry = e;
            at = at;
            is_alias = is_alias;
            named = ap (λ (b : Alias). b.name) t.2;
            target = subst (λ ns. Contains ns a.target) (sym same) (subst (Contains targets) (ap (λ (b : Alias). b.target) t.2) t.1);
          })
        ],
        λ h. subst (λ ls. Contains ls a) (sym pushed) (elim h [
          | inl o ↦ Contains-append_left aliases (map (alias_to (spelled_of k.lookup.namespaces.now e)) targets) a o
          | inr is ↦ Contains-append_right aliases (map (alias_to (spelled_of k.lookup.namespaces.now e)) targets) a
              (subst (Contains (map (alias_to (spelled_of k.lookup.namespaces.now e)) targets))
              (same_alias (alias_to (spelled_of k.lookup.namespaces.now e) a.target) a (ap (spelled_of k.lookup.namespaces.now) (same_Some e is.entry (sym at ∙ is.at)) ∙ is.named) refl)
              (contains_map (alias_to (spelled_of k.lookup.namespaces.now e)) targets a.target (subst (λ ns. Contains ns a.target) same is.target)))
        ]),
      )

  -- ---- what they are

  module _ (xs : List Item) (names : Kind → List (List ℕ)) (known : IsKnown k xs names) (members : HaveMembers k xs names kinds.Type_ types) (raw : List Alias)
      (are : AreAliasesAt k types (length k.lookup.names.now) raw) where
    its_targets : (d : ℕ) (e : Entry) → slice_get k.lookup.names.now d ≡ Some e → is_declared_in (enabled_in k) e ≡ true → nat_eq (kind_number e.kind) (kind_number kinds.TypeAlias) ≡ true
        → Lists nat_cmp (IsMemberNumber xs (enabled_in k) kinds.Type_ (names kinds.Type_) (symbol_of k.lookup.namespaces.now e)) (get_or types d [])
    its_targets d e at live is = members d e at live (or_so (nat_eq (kind_number e.kind) (kind_number kinds.TypeAlias)) (nat_eq (kind_number e.kind) (kind_number kinds.TypeAttribute)) is)

    is_alias : (a : Alias) → Contains raw a → IsAlias xs (enabled_in k) (names kinds.Type_) a
    is_alias a c =
        let h = (are a).0 c in
        let is = h.2 in
        let parts = and_parts (nat_eq (kind_number is.entry.kind) (kind_number kinds.TypeAlias)) (is_declared_in (enabled_in k) is.entry) is.is_alias in
        let (x, is_x, has_kind, in_space, of_name) = known.entries.only (enabled_in k) h.0 is.entry is.at parts.1 in
        record {
          alias = symbol_of k.lookup.namespaces.now is.entry;
          an_alias = record { declaration = x; declares = is_x; of_kind = has_kind ∙ one_kind is.entry.kind kinds.TypeAlias parts.0; in_space = in_space; of_name = of_name };
          named = is.named;
          target = ((its_targets h.0 is.entry is.at parts.1 parts.0).members a.target).0 is.target;
        }

    from_alias : (a : Alias) → IsAlias xs (enabled_in k) (names kinds.Type_) a → Contains raw a
    from_alias a is =
        let st = is.an_alias in
        let (i, f) = known.entries.each (enabled_in k) st.declaration st.declares in
        let of_kind = same_kind f.entry.kind kinds.TypeAlias (f.of_kind ∙ st.of_kind) in
        let symbol = symbol_by (symbol_of k.lookup.namespaces.now f.entry) is.alias (f.in_space ∙ st.in_space) (f.of_name ∙ st.of_name) in
        (are a).1 (
          i,
          in_range k.lookup.names.now i f.entry f.at,
          record {
            entry = f.entry;
            at = f.at;
            is_alias = and_so (nat_eq (kind_number f.entry.kind) (kind_number kinds.TypeAlias)) (is_declared_in (enabled_in k) f.entry) of_kind f.live;
            named = ap name_of symbol ∙ is.named;
            target = ((its_targets i f.entry f.at f.live of_kind).members a.target).1
                (subst (λ u. IsMemberNumber xs (enabled_in k) kinds.Type_ (names kinds.Type_) u a.target) (sym symbol) is.target);
          },
        )

    pub aliases_listed : (ys zs : List Alias) → IsPermutation raw ys → IsSorted alias_cmp ys → IsFiltered (DiffersFromLast (eq_by_cmp alias_cmp)) [] ys zs
        → Lists alias_cmp (IsAlias xs (enabled_in k) (names kinds.Type_)) zs
    aliases_listed ys zs moved sorted kept =
        let list = sorted_list alias_cmp alias_total one_alias raw ys zs moved sorted kept in
        record { rising = list.rising; members = λ a. (λ c. is_alias a ((list.members a).0 c), λ is. (list.members a).1 (from_alias a is)) }
