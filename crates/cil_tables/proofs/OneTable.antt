-- Modules have one answer.
use Rattle.std.specs.Prelude.{Contains, ◌↔◌, slice_get, IsBitSet, Some}
use Rattle.std.specs.Ordering.{nat_cmp}
use Rattle.std.specs.List.Sorted.{IsStrictlySortedBy}
use Rattle.std.proofs.Common.{◌≡◌, ℕ, Bool, zero, suc, true, ◌<◌, List, [], ◌∷◌, length, refl, sym, ◌∙◌, ap, subst, inl, inr, arith}
use Rattle.std.proofs.lemmas.Cmp.{nat_cmp_total, nat_list_cmp_total, on_total}
use Rattle.cil_base.specs.Lists.{Lists, text_cmp, one_list, same_members}
use Rattle.cil_faults.specs.declared.fault.Fault.{Fault}
use Rattle.cil_base.specs.Lists.{contains_here, contains_later}
use Rattle.cil_base.specs.Places.{cons_head, cons_tail, get_contains}
use Rattle.cil_syntax.specs.declared.kind.Keyword.{Keyword}
use Rattle.cil_syntax.specs.declared.kind.Keyword.TheVariants as keywords
use Rattle.cil_neverallow.specs.index_crate.Sections.{RuleSections}
use Rattle.cil_syntax.specs.declared.kind.Kind.TheVariants as kinds
use Rattle.cil_faults.specs.Fails.{AreFaults}
use Rattle.cil_faults.specs.FaultOrder.{fault_cmp, fault_total}
use Rattle.cil_syntax.specs.Terms.{Term, Leaf, Name, Form}
use Rattle.cil_classes.specs.declared.row.Class.{Class}
use Rattle.cil_neverallow.specs.rules.Rule.{Rule, Target, Types, Itself}
use Rattle.cil_tables.specs.Agrees.{Compiles}
use Rattle.cil_neverallow.specs.rules.Records.{Case, HasBit, HasNumber, IsRuleOf, IsTargetOf, spelled}
use Rattle.cil_tables.specs.Links.{IsLink}
use Rattle.cil_tables.specs.Compiled.{AreConstraints, AreRules, AreRulesOf, IsTable}
use Rattle.cil_tables.specs.Named.{IsNameOf}
use Rattle.cil_classes.specs.ClassRows.{IsRowOf}
use Rattle.std.proofs.lemmas.Option.{same_Some}
use Rattle.cil_names.specs.Declarations.{Declared, Symbol}
use Rattle.cil_known.specs.Known.{IsNumbered}
use Rattle.cil_level_rows.specs.Rows.{IsLevelTable}
use Rattle.cil_level_rows.proofs.OneTableLaws.{one_level_table}
use Rattle.cil_faults.specs.First.{AreFirst}
use Rattle.cil_tables.specs.Faults.{ArePolicyFaults, steps}
use Rattle.cil_macros.specs.Item.{Item, OptSet}
use Rattle.cil_syntax.specs.Scopes.{ScopedWord}
use Rattle.cil_names.specs.Resolves.{has_permission}
use Rattle.cil_tables.specs.Aliases.{IsAlias}
use Rattle.cil_tables.specs.Booleans.{is_default_on}
use Rattle.cil_tables.specs.declared.tables.Boolean.{Boolean}
use Rattle.cil_neverallow.proofs.conditions_lemmas.ConditionLemmas.{has_one_spelling}
use Rattle.cil_neverallow.specs.conditions.Spelled.{HasOneNumber}
use Rattle.cil_tables.specs.Table.{Table, alias_cmp, alias_total, boolean_names, link_cmp, link_total, names_in}
use Rattle.cil_classes.specs.Row.{class_cmp}
use Rattle.cil_neverallow.specs.rules.Order.{rule_cmp, rule_total, same_rules}
use Rattle.cil_tables.proofs.ConstraintLemmas.{constraints_moved}
use Rattle.cil_tables.proofs.OneConstraints.{one_constraints, same_masks}
use Rattle.cil_tables.proofs.SymbolLemmas.{one_class_number, one_number}
use Rattle.cil_constraints.specs.declared.step.Part.{Part}
use Rattle.cil_constraints.specs.declared.step.Part.TheVariants as parts
use Rattle.cil_constraints.specs.Contexts.{kind_of}
use Rattle.cil_tables.proofs.CompileLemmas.{policy_moved}

-- ---- one list of faults

never_empty : (P : Fault → Type 0) (f g : List Fault) → AreFaults P f → g ≡ [] → ((x : Fault) → P x → ⊥) → ⊥
never_empty P [] g a e none = let h = a.some in omega (arith, h)
never_empty P (x ∷ f) g a e none = none x ((a.listed.members x).0 (0, omega arith, refl))

one_first : (ss : List (Fault → Type 0)) (f g : List Fault) → AreFirst ss f → AreFirst ss g → f ≡ g
one_first [] f g a b = a ∙ sym b
one_first (step ∷ ss) f g (inl a) (inl b) = one_list fault_cmp fault_total step f g a.listed b.listed
one_first (step ∷ ss) f g (inl a) (inr b) = absurd (never_empty step f [] a refl b.0)
one_first (step ∷ ss) f g (inr a) (inl b) = absurd (never_empty step g [] b refl a.0)
one_first (step ∷ ss) f g (inr a) (inr b) = one_first ss f g a.1 b.1

pub one_list_of_faults : (modules : List (List ℕ)) (faults others : List Fault) → ArePolicyFaults modules faults → ArePolicyFaults modules others → faults ≡ others
one_list_of_faults modules faults others a b = one_first (steps modules) faults others a b

-- ---- one table

same_row : (a b : Class) → a.name ≡ b.name → a.permissions ≡ b.permissions → a ≡ b
same_row a b n p = λ i. record { name = n i; permissions = p i }

same_table : (t u : Table) → t.levels ≡ u.levels → t.users ≡ u.users → t.roles ≡ u.roles → t.types ≡ u.types → t.type_aliases ≡ u.type_aliases → t.classes ≡ u.classes → t.user_roles ≡ u.user_roles
    → t.role_types ≡ u.role_types → t.role_allows ≡ u.role_allows → t.rules ≡ u.rules → t.booleans ≡ u.booleans → t.constraints ≡ u.constraints → t ≡ u
same_table t u v a b c d e f g j h k l =
    λ i. record { levels = v i; users = a i; roles = b i; types = c i; type_aliases = d i; classes = e i; booleans = k i; user_roles = f i; role_types = g i; role_allows = j i; rules = h i; constraints = l i }

-- booleans with the same names and the same defaults are one list
same_boolean : (a b : Boolean) → a.name ≡ b.name → a.default ≡ b.default → a ≡ b
same_boolean a b n d = λ i. record { name = n i; default = d i }

one_booleans : (f : List ℕ → Bool) (ms bs : List Boolean) → ((a : Boolean) → Contains ms a → a.default ≡ f a.name) → ((b : Boolean) → Contains bs b → b.default ≡ f b.name)
    → boolean_names ms ≡ boolean_names bs → ms ≡ bs
one_booleans f [] [] da db same = refl
one_booleans f [] (b ∷ bs) da db same = absurd (let e = ap length same in omega (arith, e))
one_booleans f (a ∷ ms) [] da db same = absurd (let e = ap length same in omega (arith, e))
one_booleans f (a ∷ ms) (b ∷ bs) da db same =
    let name : a.name ≡ b.name = cons_head _ _ _ _ same in
    let one : a ≡ b = same_boolean a b name (da a (contains_here a ms) ∙ ap f name ∙ sym (db b (contains_here b bs))) in
    let rest : ms ≡ bs = one_booleans f ms bs (λ x c. da x (contains_later x a ms c)) (λ x c. db x (contains_later x b bs c)) (cons_tail _ _ _ _ same) in
    λ i. one i ∷ rest i

same_sections : (a b : RuleSections) → a.allow ≡ b.allow → a.auditallow ≡ b.auditallow → a.dontaudit ≡ b.dontaudit → a ≡ b
same_sections a b p q r = λ i. record { allow = p i; auditallow = q i; dontaudit = r i }

module _ (xs : List Item) (s : OptSet) where
  one_row : (c : Symbol) (a b : Class) → IsRowOf xs c a → IsRowOf xs c b → a ≡ b
  one_row c a b p q =
      same_row a b (p.named ∙ sym q.named)
      (one_list text_cmp nat_list_cmp_total (λ z. has_permission xs c z ≡ true) a.permissions b.permissions p.permissions q.permissions)

  module _ (types : List (List ℕ)) (classes : List Class) (booleans : List (List ℕ)) (one_number : HasOneNumber booleans) where
    one_target : (term : Term ScopedWord) (a b : Target) → IsTargetOf xs s types term a → IsTargetOf xs s types term b → a ≡ b
    one_target (Leaf w) (Types m) (Types n) p q = ap Types (one_list nat_cmp nat_cmp_total (HasNumber xs s types w) m n p q)
    one_target (Leaf w) (Types m) Itself p q = absurd q
    one_target (Leaf w) Itself b p q = absurd p
    one_target (Name at name) a b p q = absurd p
    one_target (Form at op parts) a b p q = p.1 ∙ sym q.1

    one_record : (k : Case) (a b : Rule) → IsStrictlySortedBy class_cmp classes → IsRuleOf xs s types classes (spelled booleans) k a → IsRuleOf xs s types classes (spelled booleans) k b → a ≡ b
    one_record k a b rising p q =
        let number = one_class_number classes a.class b.class p.row q.row rising p.is_row q.is_row (p.named ∙ sym q.named) in
        let row : p.row ≡ q.row = same_Some _ _ (sym p.is_row ∙ ap (slice_get classes) number ∙ q.is_row) in
        same_rules a b (has_one_spelling xs s booleans one_number k.branch a.branch b.branch p.branch q.branch) (one_list nat_cmp nat_cmp_total (HasNumber xs s types k.source) a.source b.source p.source q.source)
        (one_target k.target a.target b.target p.target q.target) number
        (same_masks a.mask b.mask (λ bit. (
          (λ b. (q.mask bit).1 (subst (λ r. HasBit xs s k r bit) row ((p.mask bit).0 b))),
          (λ b. (p.mask bit).1 (subst (λ r. HasBit xs s k r bit) (sym row) ((q.mask bit).0 b))),
        )))

    module _ (rising : IsStrictlySortedBy class_cmp classes) where
      rules_within : (keyword : Keyword) (a b : List Rule) → AreRulesOf xs s types classes booleans keyword a
          → AreRulesOf xs s types classes booleans keyword b → (r : Rule) → Contains a r → Contains b r
      rules_within keyword a b p q r c =
          let k = p.only r c in
          let found = q.each k.0 k.1 in
          subst (Contains b) (one_record k.0 found.0 r rising found.1 k.2) found.2

      one_section : (keyword : Keyword) (a b : List Rule) → AreRulesOf xs s types classes booleans keyword a → AreRulesOf xs s types classes booleans keyword b → a ≡ b
      one_section keyword a b p q = same_members rule_cmp rule_total a b p.rising q.rising (rules_within keyword a b p q) (rules_within keyword b a q p)

      one_rules : (a b : RuleSections) → AreRules xs s types classes booleans a → AreRules xs s types classes booleans b → a ≡ b
      one_rules a b p q =
          same_sections a b (one_section keywords.Allow a.allow b.allow p.allow q.allow)
          (one_section keywords.AuditAllow a.auditallow b.auditallow p.auditallow q.auditallow)
          (one_section keywords.DontAudit a.dontaudit b.dontaudit p.dontaudit q.dontaudit)

  module _ (t u : Table) (a : IsTable xs s t) (b : IsTable xs s u) where
    rows_within : (t u : Table) → IsTable xs s t → IsTable xs s u → (r : Class) → Contains t.classes r → Contains u.classes r
    rows_within t u a b r c =
        let k = a.classes.only r c in
        let q = b.classes.each k.0 k.1 in
        subst (Contains u.classes) (one_row k.0 q.0 r q.1 k.2) q.2

    one_classes : t.classes ≡ u.classes
    one_classes = same_members class_cmp (on_total (λ c. c.name) nat_list_cmp_total) t.classes u.classes a.classes.rising b.classes.rising (rows_within t u a b) (rows_within u t b a)

    same_sections_of : (part : Part) → t.users ≡ u.users → t.roles ≡ u.roles → t.types ≡ u.types → names_in t (kind_of part) ≡ names_in u (kind_of part)
    same_sections_of parts.User users roles types = users
    same_sections_of parts.Role users roles types = roles
    same_sections_of parts.Kind users roles types = types

    -- each user of a number is declared
    declared : (n : ℕ) (name : List ℕ) → slice_get u.users n ≡ Some name → (user : Symbol) × Declared xs s kinds.User user × IsNumbered u.users user n
    declared n name at =
        let of = (b.users.members name).0 (get_contains u.users n name at) in
        (of.symbol, of.declared, at ∙ ap Some (sym of.named))

    pub equal_tables : t ≡ u
    equal_tables =
        let users : t.users ≡ u.users = one_list text_cmp nat_list_cmp_total (IsNameOf xs s kinds.User) t.users u.users a.users b.users in
        let roles : t.roles ≡ u.roles = one_list text_cmp nat_list_cmp_total (IsNameOf xs s kinds.Role) t.roles u.roles a.roles b.roles in
        let types : t.types ≡ u.types = one_list text_cmp nat_list_cmp_total (IsNameOf xs s kinds.Type_) t.types u.types a.types b.types in
        let user_roles : Lists link_cmp (IsLink xs s keywords.UserRole kinds.User kinds.Role u.users u.roles) t.user_roles =
        subst (λ z. Lists link_cmp (IsLink xs s keywords.UserRole kinds.User kinds.Role u.users z) t.user_roles) roles
        (subst (λ z. Lists link_cmp (IsLink xs s keywords.UserRole kinds.User kinds.Role z t.roles) t.user_roles) users a.user_roles) in
        let role_types : Lists link_cmp (IsLink xs s keywords.RoleType kinds.Role kinds.Type_ u.roles u.types) t.role_types =
        subst (λ z. Lists link_cmp (IsLink xs s keywords.RoleType kinds.Role kinds.Type_ u.roles z) t.role_types) types
        (subst (λ z. Lists link_cmp (IsLink xs s keywords.RoleType kinds.Role kinds.Type_ z t.types) t.role_types) roles a.role_types) in
        let role_allows : Lists link_cmp (IsLink xs s keywords.RoleAllow kinds.Role kinds.Role u.roles u.roles) t.role_allows =
        subst (λ z. Lists link_cmp (IsLink xs s keywords.RoleAllow kinds.Role kinds.Role z z) t.role_allows) roles a.role_allows in
        let aliases : Lists alias_cmp (IsAlias xs s u.types) t.type_aliases = subst (λ z. Lists alias_cmp (IsAlias xs s z) t.type_aliases) types a.type_aliases in
        let booleans : boolean_names t.booleans ≡ boolean_names u.booleans =
        one_list text_cmp nat_list_cmp_total (IsNameOf xs s kinds.Boolean) (boolean_names t.booleans) (boolean_names u.booleans) a.booleans.names b.booleans.names in
        let rules : AreRules xs s u.types u.classes (boolean_names u.booleans) t.rules =
        subst (λ z. AreRules xs s z u.classes (boolean_names u.booleans) t.rules) types
        (subst (λ z. AreRules xs s t.types z (boolean_names u.booleans) t.rules) one_classes (subst (λ z. AreRules xs s t.types t.classes z t.rules) booleans a.rules)) in
        let constraints : AreConstraints xs s (names_in u) u.classes t.constraints =
        subst (λ (z : List Class). AreConstraints xs s (names_in u) z t.constraints) one_classes
        (constraints_moved xs s (names_in t) (names_in u) (λ part. same_sections_of part users roles types) t.classes t.constraints a.constraints) in
        let levels : IsLevelTable xs s u.users t.levels = subst (λ z. IsLevelTable xs s z t.levels) users a.levels in
        same_table t u (one_level_table xs s u.users declared t.levels u.levels levels b.levels) users roles types (one_list alias_cmp alias_total (IsAlias xs s u.types) t.type_aliases u.type_aliases aliases b.type_aliases) one_classes
        (one_list link_cmp link_total (IsLink xs s keywords.UserRole kinds.User kinds.Role u.users u.roles) t.user_roles u.user_roles user_roles b.user_roles)
        (one_list link_cmp link_total (IsLink xs s keywords.RoleType kinds.Role kinds.Type_ u.roles u.types) t.role_types u.role_types role_types b.role_types)
        (one_list link_cmp link_total (IsLink xs s keywords.RoleAllow kinds.Role kinds.Role u.roles u.roles) t.role_allows u.role_allows role_allows b.role_allows)
        (one_rules u.types u.classes (boolean_names u.booleans) (λ n m name at bt. one_number (boolean_names u.booleans) n m name b.booleans.names.rising at bt) b.classes.rising t.rules u.rules rules b.rules)
        (one_booleans (is_default_on xs s) t.booleans u.booleans a.booleans.defaults b.booleans.defaults booleans)
        (one_constraints xs s (names_in u) u.classes b.classes.rising t.constraints u.constraints constraints b.constraints)

pub one_table : (modules : List (List ℕ)) (t u : Table) → Compiles modules t → Compiles modules u → t ≡ u
one_table modules t u a b =
    equal_tables b.items b.enabled t u (policy_moved modules a.items b.items a.enabled b.enabled a.policy b.policy (λ ys r. IsTable ys r t) a.table) b.table
