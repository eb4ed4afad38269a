-- The faults of sets are finite where no set has members.
use Rattle.std.specs.Prelude.{Some, codes}
use Rattle.std.specs.Option.{option_map_or}
use Rattle.std.proofs.Common.{◌≡◌, ◌⊎◌, ◌↔◌, ℕ, ◌<◌, ◌||◌, true, false, List, [], length, refl, sym, ◌∙◌, ap, arith}
use Rattle.std.proofs.lemmas.Bool.{true≢false}
use Rattle.std.proofs.lemmas.Cmp.{nat_list_cmp_total}
use Rattle.std.proofs.lemmas.Map.Lookups.{exact_bytes}
use Rattle.std.proofs.lemmas.Option.{none-some, same_Some}
use Rattle.cil_base.specs.Lists.{contains_none, one_list, text_cmp}
use Rattle.cil_base.specs.Listing.{Listing}
use Rattle.cil_faults.specs.Reported.{global_fault}
use Rattle.cil_faults.specs.declared.code.FaultCode.TheVariants as causes
use Rattle.cil_faults.specs.declared.fault.Fault.{Fault}
use Rattle.cil_syntax.specs.declared.kind.Kind.{Kind}
use Rattle.cil_syntax.specs.declared.kind.Kind.TheVariants as kinds
use Rattle.cil_syntax.specs.declared.kind.Keyword.{Keyword}
use Rattle.cil_macros.specs.Item.{Item, OptSet}
use Rattle.cil_names.specs.Declarations.{nowhere}
use Rattle.cil_known.specs.Members.{space_of}
use Rattle.cil_known.specs.Spaces.{Sets, any_sets}
use Rattle.cil_level_rows.specs.attrs.SetFaults.{AliasTwice, IsItemName, OpenAlias, SetFault, alias_cycle, alias_open, alias_twice, limit_of, many, set_cycle}
use Rattle.cil_classes.specs.Faults.{ClassFault}
use Rattle.cil_tables.specs.Named.{IsNameOf}
use Rattle.cil_tables.specs.Booleans.{HasManyBooleans}
use Rattle.cil_tables.specs.Table.{most_booleans}
use Rattle.cil_tables.specs.SetsStep.{MembersFault, SetsFault}
use Rattle.cil_tables.proofs.Finite.{Finite, finite_either, finite_if, finite_listing, finite_same}
use Rattle.cil_tables.proofs.FiniteFaults.{decided_less, finite_class}
use Rattle.cil_tables.proofs.FinitePolicy.{finite_names}
use Rattle.cil_level_rows.specs.mls.OrderFaults.{OrderFault}
use Rattle.cil_level_rows.proofs.NoLevels.{no_order_fault}
use Rattle.cil_tables.proofs.NoGifts.{HaveFlatKeywords, declares_no_alias, gives_none, is_alias, none_depends, without_levels}

-- the kinds of the aliases of all name spaces
alias_kind : (kind : Kind) (j : Sets) → (space_of kind).aliases ≡ Some j → is_alias j.kind ≡ true
alias_kind kinds.Type_ j e = ap (λ (i : Sets). is_alias i.kind) (sym (same_Some _ j e))
alias_kind kinds.Sensitivity j e = ap (λ (i : Sets). is_alias i.kind) (sym (same_Some _ j e))
alias_kind kinds.Category j e = ap (λ (i : Sets). is_alias i.kind) (sym (same_Some _ j e))
alias_kind kinds.Role j e = absurd (none-some j e)
alias_kind kinds.User j e = absurd (none-some j e)
alias_kind kind j e = absurd (none-some j e)

gives_one : (kind : Kind) (j : Sets) (k : Keyword) → (space_of kind).aliases ≡ Some j → j.giving k ≡ true → any_sets (space_of kind) (λ i. i.giving k) ≡ true
gives_one kind j k e g = ap (λ o. option_map_or (λ (i : Sets). i.giving k) o false || option_map_or (λ (i : Sets). i.giving k) (space_of kind).attributes false) e ∙ ap (λ b. b || option_map_or (λ (i : Sets). i.giving k) (space_of kind).attributes false) g

module _ (xs : List Item) (flat : HaveFlatKeywords xs) (s : OptSet) (kind : Kind) where
  no_open : (f : Fault) → OpenAlias xs s (space_of kind) f → ⊥
  no_open f o =
      declares_no_alias o.item.keyword (flat o.item o.declares.is_item) o.sets.kind (alias_kind kind o.sets o.are_aliases) o.declares.of_kind

  no_twice : (f : Fault) → AliasTwice xs s (space_of kind) f → ⊥
  no_twice f t =
      true≢false (sym (gives_one kind t.sets t.item.keyword t.are_aliases t.says_first.giving) ∙ gives_none kind t.item.keyword (flat t.item t.says_first.is_item))

  -- the names of the items
  its_names : Listing text_cmp (IsNameOf xs s (space_of kind).item)
  its_names = finite_listing text_cmp nat_list_cmp_total exact_bytes (IsNameOf xs s (space_of kind).item) (finite_names xs s (space_of kind).item)

  names_alike : (name : List ℕ) → IsNameOf xs s (space_of kind).item name ↔ IsItemName xs s (space_of kind).item name
  names_alike name = (λ n. (n.symbol, n.declared, n.named), λ h. record { symbol = h.0; declared = h.1; named = h.2 })

  module _ (limit : ℕ) (word : List ℕ) (is_limit : limit_of (space_of kind).item ≡ Some (limit, word)) where
    abbrev IsOver : Fault → Type 0
    IsOver f = (global_fault causes.TooMany nowhere word ≡ f) × (limit < length its_names.list)

    finite_over : Finite IsOver
    finite_over = finite_if (limit < length its_names.list) (global_fault causes.TooMany nowhere word) (decided_less limit (length its_names.list))

    over_there : (f : Fault) → IsOver f → SetFault xs s (space_of kind) f
    over_there f h = many (record {
      names = its_names.list;
      are_names = record { rising = its_names.lists.rising; members = λ n. (λ c. (names_alike n).0 ((its_names.lists.members n).0 c), λ i. (its_names.lists.members n).1 ((names_alike n).1 i)) };
      limit = limit;
      word = word;
      is_limit = is_limit;
      many = h.1;
      told = sym h.0;
    })

    over_back : (f : Fault) → SetFault xs s (space_of kind) f → IsOver f
    over_back f (alias_open o) = absurd (no_open f o)
    over_back f (alias_twice t) = absurd (no_twice f t)
    over_back f (alias_cycle c) = absurd (none_depends xs flat s kind _ _ c.depends)
    over_back f (set_cycle c) = absurd (none_depends xs flat s kind _ _ c.depends)
    over_back f (many m) =
        let same = same_Some (limit, word) (m.limit, m.word) (sym is_limit ∙ m.is_limit) in
        let one : m.names ≡ its_names.list =
        one_list text_cmp nat_list_cmp_total (IsItemName xs s (space_of kind).item) m.names its_names.list m.are_names
        (record { rising = its_names.lists.rising; members = λ n. (λ c. (names_alike n).0 ((its_names.lists.members n).0 c), λ i. (its_names.lists.members n).1 ((names_alike n).1 i)) }) in
        let counted = ap length one in
        let limits : limit ≡ m.limit = ap (λ (p : ℕ × List ℕ). p.0) same in
        let over = m.many in
        (ap (λ (p : ℕ × List ℕ). global_fault causes.TooMany nowhere p.1) same ∙ sym m.told, omega (arith, counted, limits, over))

    finite_set_faults : Finite (SetFault xs s (space_of kind))
    finite_set_faults = finite_same IsOver (SetFault xs s (space_of kind)) over_there over_back finite_over

-- ---- booleans

module _ (xs : List Item) (s : OptSet) where
  boolean_list : Listing text_cmp (IsNameOf xs s kinds.Boolean)
  boolean_list = finite_listing text_cmp nat_list_cmp_total exact_bytes (IsNameOf xs s kinds.Boolean) (finite_names xs s kinds.Boolean)

  abbrev AreOver : Fault → Type 0
  AreOver f = (global_fault causes.TooMany nowhere (codes "booleans") ≡ f) × (most_booleans < length boolean_list.list)

  finite_booleans : Finite (HasManyBooleans s xs)
  finite_booleans =
      finite_same AreOver (HasManyBooleans s xs)
      (λ f o. record { names = boolean_list.list; are_names = boolean_list.lists; many = o.1; told = sym o.0 })
      (λ f m. let counted = ap length (one_list text_cmp nat_list_cmp_total (IsNameOf xs s kinds.Boolean) m.names boolean_list.list m.are_names boolean_list.lists) in
      let over = m.many in (sym m.told, omega (arith, counted, over)))
      (finite_if (most_booleans < length boolean_list.list) (global_fault causes.TooMany nowhere (codes "booleans")) (decided_less most_booleans (length boolean_list.list)))

module _ (xs : List Item) (flat : HaveFlatKeywords xs) (s : OptSet) where
  finite_members : Finite (MembersFault s xs)
  finite_members =
      finite_either (SetFault xs s (space_of kinds.User)) (λ f. SetFault xs s (space_of kinds.Role) f ⊎ SetFault xs s (space_of kinds.Type_) f)
      (finite_set_faults xs flat s kinds.User 4096 (codes "users") refl)
      (finite_either (SetFault xs s (space_of kinds.Role)) (SetFault xs s (space_of kinds.Type_)) (finite_set_faults xs flat s kinds.Role 4096 (codes "roles") refl)
      (finite_set_faults xs flat s kinds.Type_ 65535 (codes "types") refl))

  -- without statements of levels nothing is wrong with orders
  no_orders : Finite (OrderFault xs s)
  no_orders = record { all = []; only = λ f c. absurd (contains_none f c); each = λ f o. absurd (no_order_fault xs s (without_levels xs flat) f o) }

  pub finite_sets : Finite (SetsFault s xs)
  finite_sets =
      finite_either (ClassFault s xs) (λ f. MembersFault s xs f ⊎ (HasManyBooleans s xs f ⊎ OrderFault xs s f)) (finite_class xs s)
      (finite_either (MembersFault s xs) (λ f. HasManyBooleans s xs f ⊎ OrderFault xs s f) finite_members
      (finite_either (HasManyBooleans s xs) (OrderFault xs s) (finite_booleans xs s) no_orders))
