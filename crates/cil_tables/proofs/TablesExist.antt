-- Items without namespaces have tables.
use Rattle.std.specs.Prelude.{Contains, IsBitSet, Option, Some, None, slice_get, bit_or, ◌↔◌}
use Rattle.std.specs.List.Sorted.{IsStrictlySortedBy}
use Rattle.std.specs.Ordering.{nat_cmp}
use Rattle.std.specs.Int.{bit_at}
use Rattle.std.proofs.Common.{◌≡◌, ℕ, zero, suc, ◌<◌, ◌^◌, true, List, [], ◌∷◌, length, map, refl, sym, ◌∙◌, ap, subst, inl, inr, arith}
use Rattle.std.proofs.lemmas.Cmp.{nat_cmp_total, nat_list_cmp_total}
use Rattle.std.proofs.lemmas.Map.Lookups.{exact_bytes}
use Rattle.std.proofs.lemmas.Nat.Bits.{bit_at-pow_same, bit_at-pow_other}
use Rattle.std.proofs.lemmas.Option.{none-some, same_Some, slice_get_within}
use Rattle.cil_base.specs.Gives.{Gives}
use Rattle.cil_base.specs.Lists.{Lists, contains_none, text_cmp}
use Rattle.cil_base.specs.MadeLists.{contains_map, from_map}
use Rattle.cil_base.specs.Places.{get_at}
use Rattle.cil_base.specs.Decided.{Decided, decided_same, same_number}
use Rattle.cil_base.specs.Paths.{same_by}
use Rattle.cil_base.specs.Listing.{Listing}
use Rattle.cil_syntax.specs.declared.kind.Keyword.{Keyword}
use Rattle.cil_syntax.specs.declared.kind.Keyword.TheVariants as keywords
use Rattle.cil_neverallow.specs.index_crate.Sections.{RuleSections}
use Rattle.cil_syntax.specs.declared.kind.Kind.TheVariants as kinds
use Rattle.cil_syntax.specs.Terms.{Term, Leaf, Name, Form}
use Rattle.cil_classes.specs.declared.row.Class.{Class}
use Rattle.cil_neverallow.specs.rules.Rule.{Rule, Target, Types, Itself}
use Rattle.cil_blocks.specs.Contents.{Branch as Said}
use Rattle.cil_neverallow.specs.conditions.Branch.{Branch}
use Rattle.cil_neverallow.specs.conditions.Conditions.{IsSaid}
use Rattle.cil_neverallow.proofs.conditions_lemmas.ConditionLemmas.{said_is_spelled}
use Rattle.cil_neverallow.specs.conditions.Spelled.{AreAllNumbered, IsBranchOf}
use Rattle.cil_neverallow.specs.rules.Records.{Case, HasBit, HasNumber, HasTarget, IsCase, IsRuleOf, IsTargetOf, spelled}
use Rattle.cil_tables.specs.Links.{IsLink}
use Rattle.cil_tables.specs.Booleans.{AreBooleans, is_default_on}
use Rattle.cil_tables.specs.declared.tables.Boolean.{Boolean}
use Rattle.cil_tables.specs.Compiled.{AreConstraints, AreRules, AreRulesOf, IsTable}
use Rattle.cil_tables.specs.Laws.{is_flat}
use Rattle.cil_constraints.specs.Constrained.{IsConstraining}
use Rattle.cil_constraints.specs.Order.{constraint_cmp}
use Rattle.cil_syntax.specs.declared.kind.Kind.{Kind}
use Rattle.std.proofs.lemmas.Bool.{true≢false}
use Rattle.cil_tables.specs.Named.{IsNameOf}
use Rattle.cil_classes.specs.ClassRows.{IsRowOf}
use Rattle.cil_names.specs.Declarations.{Declared, Symbol, name_of}
use Rattle.cil_macros.specs.Item.{Item, nobody}
use Rattle.cil_syntax.specs.Scopes.{ScopedWord}
use Rattle.cil_classes.specs.Given.{HasPair}
use Rattle.cil_tables.proofs.FlatLemmas.{AreFlat, global_symbol, declared_here, global_symbol_of, name_declared, name_of_global}
use Rattle.cil_names.specs.Resolves.{has_permission}
use Rattle.cil_tables.specs.Aliases.{IsAlias}
use Rattle.cil_tables.specs.Table.{Table, alias_cmp, boolean_names, link_cmp, link_total, one_link}
use Rattle.cil_level_rows.specs.NoLevels.{empty_table}
use Rattle.cil_level_rows.proofs.NoLevels.{is_empty_table}
use Rattle.cil_tables.proofs.NoGifts.{HaveFlatKeywords, no_alias, without_levels}
use Rattle.cil_classes.specs.Row.{class_cmp}
use Rattle.cil_neverallow.specs.rules.Order.{rule_cmp, rule_total, one_rule}
use Rattle.cil_classes.proofs.BitLemmas.{none_set, set_in_either, set_is_one}
use Rattle.cil_tables.proofs.CompileLemmas.{rising_by}
use Rattle.cil_tables.proofs.Finite.{Finite, chosen, finite_listing}
use Rattle.cil_tables.proofs.FiniteFaults.{permissions_of}
use Rattle.cil_tables.proofs.FinitePolicy.{decided_pair, finite_has_number, finite_names, pair_class}
use Rattle.cil_tables.proofs.FiniteRecords.{finite_cases, finite_links}

-- ---- masks

below_top : (n bit : ℕ) → bit < suc n → (bit ≡ n → ⊥) → bit < n
below_top n bit below apart = grind (arith, below, apart)

-- the mask of the bits below a number of which something holds
record MaskOf (n : ℕ) (P : ℕ → Type 0) : Type 0 where
  mask : ℕ
  bits : (bit : ℕ) → IsBitSet mask bit ↔ ((bit < n) × P bit)

one_bit_more : (n : ℕ) (P : ℕ → Type 0) → P n → MaskOf n P → MaskOf (suc n) P
one_bit_more n P p m = record {
  mask = bit_or (2 ^ n) m.mask;
  bits = λ bit. (
    λ s. elim ((set_in_either (2 ^ n) m.mask bit).0 s) [
      | inl t ↦ elim (same_number bit n) [
        | inl e ↦ (omega (arith, e), subst P (sym e) p)
        | inr apart ↦ let one = (set_is_one (2 ^ n) bit).0 t in let zero = bit_at-pow_other n bit apart in absurd (omega (arith, one, zero))
      ]
      | inr t ↦ let h = (m.bits bit).0 t in let below = h.0 in (omega (arith, below), h.1)
    ],
    λ h. (set_in_either (2 ^ n) m.mask bit).1 (elim (same_number bit n) [
      | inl e ↦ inl ((set_is_one (2 ^ n) bit).1 (ap (bit_at (2 ^ n)) e ∙ bit_at-pow_same n))
      | inr apart ↦ inr ((m.bits bit).1 (below_top n bit h.0 apart, h.1))
    ]),
  );
}

no_bit_more : (n : ℕ) (P : ℕ → Type 0) → (P n → ⊥) → MaskOf n P → MaskOf (suc n) P
no_bit_more n P none m = record {
  mask = m.mask;
  bits = λ bit. (
    λ s. let h = (m.bits bit).0 s in let below = h.0 in (omega (arith, below), h.1),
    λ h. (m.bits bit).1 (elim (same_number bit n) [
      | inl e ↦ absurd (none (subst P e h.1))
      | inr apart ↦ (below_top n bit h.0 apart, h.1)
    ]),
  );
}

mask_of : (n : ℕ) (P : ℕ → Type 0) → ((bit : ℕ) → Decided (P bit)) → MaskOf n P
mask_of zero P decide = record { mask = 0; bits = λ bit. (λ s. absurd (none_set bit s), λ h. let below = h.0 in absurd (omega (arith, below))) }
mask_of (suc n) P decide = elim (decide n) [
  | inl p ↦ one_bit_more n P p (mask_of n P decide)
  | inr none ↦ no_bit_more n P none (mask_of n P decide)
]

module _ (xs : List Item) (plain : HaveFlatKeywords xs) where
  names_of : (set : List ℕ → Type 0) → Finite set → Listing text_cmp set
  names_of set f = finite_listing text_cmp nat_list_cmp_total exact_bytes set f

  -- ---- rules

  branch_of : (booleans : List (List ℕ)) → Lists text_cmp (IsNameOf xs nobody kinds.Boolean) booleans → (b : Option Said) → IsSaid xs nobody b
      → (r : Option Branch) × IsBranchOf xs nobody booleans b r
  branch_of booleans listed None said = (None, tt)
  branch_of booleans listed (Some b) said =
      let s = said_is_spelled xs nobody booleans all_numbered b.0 said in (Some (record { condition = s.0; value = b.1 }), (s.1, refl))
    where
      all_numbered : AreAllNumbered xs nobody booleans
      all_numbered t d = let at = get_at booleans (name_of t) ((listed.members (name_of t)).1 (record { symbol = t; declared = d; named = refl })) in (at.0, at.2)

  module _ (booleans : List (List ℕ)) (listed : Lists text_cmp (IsNameOf xs nobody kinds.Boolean) booleans) (types : List (List ℕ)) where
    numbers_of : (w : ScopedWord) → Listing nat_cmp (HasNumber xs nobody types w)
    numbers_of w = finite_listing nat_cmp nat_cmp_total same_by (HasNumber xs nobody types w) (finite_has_number xs plain nobody types w)

    target_of : (t : Term ScopedWord) → HasTarget xs nobody t → (target : Target) × IsTargetOf xs nobody types t target
    target_of (Leaf w) h = (Types (numbers_of w).list, (numbers_of w).lists)
    target_of (Name at name) h = absurd h
    target_of (Form at op parts) h = (Itself, (h, refl))

    module _ (classes : List Class) (given : Gives class_cmp (Declared xs nobody kinds.Class) (IsRowOf xs) classes) where
      has_bit : (k : Case) (row : Class) (bit : ℕ) (o : Option (List ℕ)) → slice_get row.permissions bit ≡ o → Decided (HasBit xs nobody k row bit)
      has_bit k row bit None e = inr (λ h. none-some h.permission (sym e ∙ h.is_permission))
      has_bit k row bit (Some p) e =
          decided_same (λ g. record { permission = p; is_permission = e; gives = g })
          (λ h. subst (HasPair xs nobody k.class_permission k.class_) (same_Some h.permission p (sym h.is_permission ∙ e)) h.gives)
          (decided_pair xs plain nobody k.class_permission k.class_ p)

      -- the bits of a case
      mask_of_case : (k : Case) (row : Class) → (mask : ℕ) × ((bit : ℕ) → IsBitSet mask bit ↔ HasBit xs nobody k row bit)
      mask_of_case k row =
          let m = mask_of (length row.permissions) (HasBit xs nobody k row) decide in
          (m.mask, λ bit. (λ s. ((m.bits bit).0 s).1, λ h. (m.bits bit).1 (slice_get_within row.permissions bit h.permission h.is_permission, h)))
        where
          decide : (bit : ℕ) → Decided (HasBit xs nobody k row bit)
          decide bit = has_bit k row bit (slice_get row.permissions bit) refl

      rule_of : (keyword : Keyword) (k : Case) → IsCase xs nobody keyword (spelled booleans) k → (r : Rule) × IsRuleOf xs nobody types classes (spelled booleans) k r
      rule_of keyword k is =
          let by = is.by in
          let row = given.each k.class_ (pair_class xs plain nobody k.class_permission k.class_ by.permission.0 by.permission.1) in
          let number = get_at classes row.0 row.2 in
          let branch = branch_of booleans listed k.branch by.taken in
          let target = target_of k.target by.target in
          let mask = mask_of_case k row.0 in (
            record { branch = branch.0; source = (numbers_of k.source).list; target = target.0; class = number.0; mask = mask.0 },
            record {
              branch = branch.1;
              source = (numbers_of k.source).lists;
              target = target.1;
              row = row.0;
              is_row = number.2;
              named = row.1.named;
              mask = mask.1;
            },
          )

      rules_by : (keyword : Keyword) → (section : List Rule) × AreRulesOf xs nobody types classes booleans keyword section
      rules_by keyword =
          let cases = finite_cases xs plain nobody keyword booleans in
          let raw = chosen (IsRuleOf xs nobody types classes (spelled booleans)) cases.all (λ k c. rule_of keyword k (cases.only k c)) in
          let l = finite_listing rule_cmp rule_total one_rule (Contains raw.all) (record { all = raw.all; only = λ r c. c; each = λ r c. c }) in (
            l.list,
            record {
              rising = l.lists.rising;
              each = λ k is. let r = raw.each k (cases.each k is) in (r.0, r.1, (l.lists.members r.0).1 r.2);
              only = λ r c. let o = raw.only r ((l.lists.members r).0 c) in (o.0, cases.only o.0 o.1, o.2);
            },
          )

      rules : (r : RuleSections) × AreRules xs nobody types classes booleans r
      rules =
          let allow = rules_by keywords.Allow in
          let auditallow = rules_by keywords.AuditAllow in
          let dontaudit = rules_by keywords.DontAudit in (
            record { allow = allow.0; auditallow = auditallow.0; dontaudit = dontaudit.0 },
            record { allow = allow.1; auditallow = auditallow.1; dontaudit = dontaudit.1 },
          )

  -- ---- classes

  module _ (flat : AreFlat xs) where
    class_names : Listing text_cmp (IsNameOf xs nobody kinds.Class)
    class_names = names_of (IsNameOf xs nobody kinds.Class) (finite_names xs nobody kinds.Class)

    row_of : List ℕ → Class
    row_of name = record { name = name; permissions = (permissions_of xs (global_symbol name)).list }

    names_again : (names : List (List ℕ)) → map (λ (row : Class). row.name) (map row_of names) ≡ names
    unfolding row_of
    names_again [] = refl
    names_again (n ∷ ns) = ap (λ ms. n ∷ ms) (names_again ns)

    row_is : (c : Symbol) → Declared xs nobody kinds.Class c → IsRowOf xs c (row_of c.name)
    unfolding row_of
    row_is c d =
        let space = global_symbol_of xs flat kinds.Class c d in record {
          named = sym (name_of_global xs flat c space);
          permissions =
              subst (λ z. Lists text_cmp (λ p. has_permission xs (record { space = z; name = c.name }) p ≡ true) (permissions_of xs (global_symbol c.name)).list) (sym space)
              (permissions_of xs (global_symbol c.name)).lists;
        }

    classes : (rows : List Class) × Gives class_cmp (Declared xs nobody kinds.Class) (IsRowOf xs) rows
    classes = (
      map row_of class_names.list,
      record {
        rising = rising_by (λ (row : Class). row.name) (map row_of class_names.list)
            (subst (IsStrictlySortedBy text_cmp) (sym (names_again class_names.list)) class_names.lists.rising);
        each = λ c d. (row_of c.name, row_is c d, contains_map row_of class_names.list c.name ((class_names.lists.members c.name).1 (name_declared xs flat kinds.Class c d)));
        only = λ row c.
            let n = from_map row_of class_names.list row c in
            let d = declared_here xs flat kinds.Class n.0 ((class_names.lists.members n.0).0 n.1) in
            (global_symbol n.0, d, subst (IsRowOf xs (global_symbol n.0)) n.2 (row_is (global_symbol n.0) d));
      },
    )

    -- ---- booleans

    boolean_of : List ℕ → Boolean
    boolean_of name = record { name = name; default = is_default_on xs nobody name }

    same_names : (names : List (List ℕ)) → boolean_names (map boolean_of names) ≡ names
    unfolding boolean_of
    same_names [] = refl
    same_names (n ∷ ns) = ap (λ ms. n ∷ ms) (same_names ns)

    booleans_of : (names : List (List ℕ)) → Lists text_cmp (IsNameOf xs nobody kinds.Boolean) names → AreBooleans xs nobody (map boolean_of names)
    unfolding boolean_of
    booleans_of names listed = record {
      names = subst (Lists text_cmp (IsNameOf xs nobody kinds.Boolean)) (sym (same_names names)) listed;
      defaults = λ b c. let n = from_map boolean_of names b c in subst (λ (z : Boolean). z.default ≡ is_default_on xs nobody z.name) n.2 refl;
    }

    -- ---- tables

    none_rise : IsStrictlySortedBy alias_cmp []
    unfolding IsStrictlySortedBy
    none_rise = tt

    no_aliases : (types : List (List ℕ)) → Lists alias_cmp (IsAlias xs nobody types) []
    no_aliases types = record { rising = none_rise; members = λ r. (λ c. absurd (contains_none r c), λ a. absurd (no_alias xs plain nobody a.alias a.an_alias)) }

    -- no statement is a constraint
    never_constraining : (keyword : Keyword) → is_flat keyword ≡ true → IsConstraining xs nobody keyword → ⊥
    never_constraining keyword is (inl e) = true≢false (sym is ∙ ap is_flat e)
    never_constraining keyword is (inr e) = true≢false (sym is ∙ ap is_flat e.0)

    constraints_rise : IsStrictlySortedBy constraint_cmp []
    unfolding IsStrictlySortedBy
    constraints_rise = tt

    no_constraints : (names : Kind → List (List ℕ)) (rows : List Class) → AreConstraints xs nobody names rows []
    no_constraints names rows = record {
      rising = constraints_rise;
      each = λ k is. absurd (never_constraining is.keyword (sym (ap is_flat is.statement.is_keyword) ∙ plain is.statement.item is.statement.is_item) is.constraining);
      only = λ c h. absurd (contains_none c h);
    }

    pub tables : (t : Table) × IsTable xs nobody t
    tables =
        let users = names_of (IsNameOf xs nobody kinds.User) (finite_names xs nobody kinds.User) in
        let roles = names_of (IsNameOf xs nobody kinds.Role) (finite_names xs nobody kinds.Role) in
        let types = names_of (IsNameOf xs nobody kinds.Type_) (finite_names xs nobody kinds.Type_) in
        let user_roles = finite_listing link_cmp link_total one_link (IsLink xs nobody keywords.UserRole kinds.User kinds.Role users.list roles.list)
        (finite_links xs plain nobody keywords.UserRole kinds.User kinds.Role users.list roles.list) in
        let role_types = finite_listing link_cmp link_total one_link (IsLink xs nobody keywords.RoleType kinds.Role kinds.Type_ roles.list types.list)
        (finite_links xs plain nobody keywords.RoleType kinds.Role kinds.Type_ roles.list types.list) in
        let role_allows = finite_listing link_cmp link_total one_link (IsLink xs nobody keywords.RoleAllow kinds.Role kinds.Role roles.list roles.list)
        (finite_links xs plain nobody keywords.RoleAllow kinds.Role kinds.Role roles.list roles.list) in
        let booleans = names_of (IsNameOf xs nobody kinds.Boolean) (finite_names xs nobody kinds.Boolean) in
        let given = rules booleans.list booleans.lists types.list classes.0 classes.1 in (
          record {
            levels = empty_table;
            users = users.list;
            roles = roles.list;
            types = types.list;
            type_aliases = [];
            classes = classes.0;
            booleans = map boolean_of booleans.list;
            user_roles = user_roles.list;
            role_types = role_types.list;
            role_allows = role_allows.list;
            rules = given.0;
            constraints = [];
          },
          record {
            levels = is_empty_table xs nobody (without_levels xs plain) users.list;
            users = users.lists;
            roles = roles.lists;
            types = types.lists;
            type_aliases = no_aliases types.list;
            classes = classes.1;
            booleans = booleans_of booleans.list booleans.lists;
            user_roles = user_roles.lists;
            role_types = role_types.lists;
            role_allows = role_allows.lists;
            rules = subst (λ (z : List (List ℕ)). AreRules xs nobody types.list classes.0 z given.0) (sym (same_names booleans.list)) given.1;
            constraints = no_constraints _ classes.0;
          },
        )
