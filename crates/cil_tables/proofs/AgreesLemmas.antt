-- What the tables of items say is what the items say.
use Rattle.std.specs.Prelude.{Contains, Some, slice_get}
use Rattle.std.proofs.Common.{◌≡◌, ℕ, Bool, List, refl, sym, ◌∙◌, ap, subst, inl, inr}
use Rattle.cil_base.specs.Lists.{Lists, text_cmp}
use Rattle.cil_base.specs.Places.{get_at, get_contains}
use Rattle.cil_syntax.specs.declared.kind.Keyword.{Keyword}
use Rattle.cil_syntax.specs.declared.kind.Keyword.TheVariants as keywords
use Rattle.cil_syntax.specs.declared.kind.Kind.{Kind}
use Rattle.cil_syntax.specs.declared.kind.Kind.TheVariants as kinds
use Rattle.cil_syntax.specs.Terms.{Term, Leaf, Name, Form}
use Rattle.cil_constraints.specs.declared.expr.Context.{Context as Numbers}
use Rattle.cil_classes.specs.declared.row.Class.{Class}
use Rattle.cil_neverallow.specs.rules.Rule.{Rule, Target, Types, Itself}
use Rattle.cil_tables.specs.Agrees.{Agrees, BarsAs, CoverAs, SameContext, SamePermission}
use Rattle.cil_known.specs.Says.{AreJoined}
use Rattle.cil_constraints.specs.Contexts.{Context}
use Rattle.cil_level_rows.proofs.ranges_lemmas.GroundLemmas.{one_ground}
use Rattle.cil_level_rows.specs.labels.Labels.{BeginsWith}
use Rattle.cil_level_rows.specs.Rows.{IsClearedBy, IsLabelBy}
use Rattle.cil_level_rows.proofs.AlikeLaws.{clears_alike, reads_alike}
use Rattle.cil_tables.specs.Contexts.{IsValid}
use Rattle.cil_neverallow.proofs.conditions_lemmas.ConditionLemmas.{branches_agree, chosen_is_said}
use Rattle.cil_neverallow.specs.conditions.Conditions.{IsChosen, Settings}
use Rattle.cil_neverallow.specs.conditions.Spelled.{AreSameSettings}
use Rattle.cil_neverallow.specs.rules.Covered.{IsCovered}
use Rattle.cil_neverallow.specs.rules.CoveredBy.{IsTarget}
use Rattle.cil_neverallow.specs.rules.Records.{Case, HasNumber, HasTarget, IsTargetOf}
use Rattle.cil_tables.specs.Links.{IsLink}
use Rattle.cil_tables.specs.Compiled.{AreRulesOf, IsTable}
use Rattle.cil_tables.specs.Named.{IsNameOf}
use Rattle.cil_known.specs.Known.{IsNumbered}
use Rattle.std.proofs.lemmas.Option.{same_Some}
use Rattle.cil_names.specs.Declarations.{Declared, Symbol, name_of}
use Rattle.cil_macros.specs.Item.{Item, OptSet}
use Rattle.cil_syntax.specs.Scopes.{ScopedWord}
use Rattle.cil_tables.specs.Aliases.{NamesType}
use Rattle.cil_tables.specs.Meaning.{Bars, IsContext, IsTransition, IsTypeText}
use Rattle.cil_tables.specs.RoleChanges.{IsBarred, MayChange}
use Rattle.cil_neverallow.specs.rules.Covers.{HasCover, Reaches}
use Rattle.cil_known.specs.Members.{StandsFor}
use Rattle.cil_classes.specs.Given.{HasPair}
use Rattle.cil_neverallow.proofs.rules_lemmas.RuleLemmas.{pair_declared}
use Rattle.cil_tables.specs.Table.{Table, boolean_names}
use Rattle.cil_tables.proofs.ConstraintLemmas.{meets_as}
use Rattle.cil_tables.proofs.SymbolLemmas.{HaveOneSymbol, one_class_number, one_number, one_numbered}

module _ (xs : List Item) (s : OptSet) (one : HaveOneSymbol xs s) where
  -- a name of a section is that of a declared symbol
  named_symbol : (names : List (List ℕ)) (kind : Kind) → Lists text_cmp (IsNameOf xs s kind) names → (name : List ℕ) (n : ℕ) → slice_get names n ≡ Some name
      → IsNameOf xs s kind name
  named_symbol names kind listed name n at = (listed.members name).0 (get_contains names n name at)

  -- and has the number of the name
  numbered_there : (names : List (List ℕ)) (kind : Kind) (name : List ℕ) (n : ℕ) → slice_get names n ≡ Some name → (of : IsNameOf xs s kind name) → IsNumbered names of.symbol n
  numbered_there names kind name n at of = at ∙ ap Some (sym of.named)

  number_of_symbol : (names : List (List ℕ)) (kind : Kind) → Lists text_cmp (IsNameOf xs s kind) names → (t : Symbol) → Declared xs s kind t → (n : ℕ) × IsNumbered names t n
  number_of_symbol names kind listed t d = let at = get_at names (name_of t) ((listed.members (name_of t)).1 (record { symbol = t; declared = d; named = refl })) in (at.0, at.2)

  module _ (t : Table) (table : IsTable xs s t) where
    -- ---- contexts

    joined_from : (keyword : Keyword) (j k : Kind) (holders helds : List (List ℕ)) (a b : Symbol) (n m : ℕ) → Declared xs s j a → Declared xs s k b
        → IsNumbered holders a n → IsNumbered helds b m → IsLink xs s keyword j k holders helds (record { holder = n; held = m }) → AreJoined xs s keyword j k a b
    joined_from keyword j k holders helds a b n m d e x y link =
        subst (λ z. AreJoined xs s keyword j k z b) (one_numbered xs s one holders n j j link.holder a link.joined.has_holder.declared d link.holder_number x)
        (subst (λ z. AreJoined xs s keyword j k link.holder z) (one_numbered xs s one helds m k k link.held b link.joined.has_held.declared e link.held_number y) link.joined)

    -- the type that a text names, by its number
    type_there : (text : List ℕ) (n : ℕ) → IsTypeText t text n → (kind : Symbol) × NamesType xs s text kind × Declared xs s kinds.Type_ kind × IsNumbered t.types kind n
    type_there text n (inl at) =
        let kind = named_symbol t.types kinds.Type_ table.types text n at in
        (kind.symbol, inl kind.named, kind.declared, numbered_there t.types kinds.Type_ text n at kind)
    type_there text n (inr c) =
        let r = (table.type_aliases.members _).0 c in
        (r.target.symbol, inr (record { alias = r.alias; an_alias = r.an_alias; named = r.named; member = r.target.member }), r.target.member.declared, r.target.numbered)

    type_back : (text : List ℕ) (kind : Symbol) (n : ℕ) → IsNumbered t.types kind n → NamesType xs s text kind → IsTypeText t text n
    type_back text kind n at (inl named) = inl (at ∙ ap Some named)
    type_back text kind n at (inr a) =
        inr ((table.type_aliases.members (record { name = text; target = n })).1
        (record { alias = a.alias; an_alias = a.an_alias; named = a.named; target = record { symbol = kind; member = a.member; numbered = at } }))

    reads : (text : List ℕ) (n : Numbers) → IsContext t text n → (c : Context) × IsValid xs s text c × SameContext xs s t n c
    reads text n is =
        let user = named_symbol t.users kinds.User table.users is.user n.user is.a_user in
        let role = named_symbol t.roles kinds.Role table.roles is.role n.role is.a_role in
        let kind = type_there is.kind n.kind is.a_type in
        let user_at = numbered_there t.users kinds.User is.user n.user is.a_user user in
        let role_at = numbered_there t.roles kinds.Role is.role n.role is.a_role role in (
          record { user = user.symbol; role = role.symbol; kind = kind.0; low = n.low; high = n.high },
          record {
            ground = table.levels.ground;
            is_ground = table.levels.is_ground;
            written = is.kind;
            rest = is.rest;
            begins = subst (λ z. BeginsWith text z (name_of role.symbol) is.rest) (sym user.named) (subst (λ z. BeginsWith text is.user z is.rest) (sym role.named) is.begins);
            label = (reads_alike xs s table.levels.ground t.users t.levels table.levels.over is.rest is.kind n.low n.high).0 is.label;
            names_kind = kind.1;
            a_user = user.declared;
            a_role = role.declared;
            a_type = kind.2;
            admitted = elim is.admitted [
              | inl e ↦ inl (role.named ∙ e)
              | inr both ↦ inr (
                joined_from keywords.UserRole kinds.User kinds.Role t.users t.roles _ _ n.user n.role user.declared role.declared user_at role_at ((table.user_roles.members _).0 both.role),
                joined_from keywords.RoleType kinds.Role kinds.Type_ t.roles t.types _ _ n.role n.kind role.declared kind.2 role_at kind.3 ((table.role_types.members _).0 both.kind),
                λ on. (clears_alike xs s table.levels.ground t.users t.levels table.levels.over on user.symbol n.user user.declared user_at n.low n.high).0 (both.cleared (table.levels.over.on.1 on)),
              )
            ];
          },
          record { user = user_at; role = role_at; kind = kind.3; low = refl; high = refl; a_user = user.declared; a_role = role.declared; a_type = kind.2 },
        )

    finds : (text : List ℕ) (c : Context) → IsValid xs s text c → (n : Numbers) × IsContext t text n × SameContext xs s t n c
    finds text c is =
        let user = number_of_symbol t.users kinds.User table.users c.user is.a_user in
        let role = number_of_symbol t.roles kinds.Role table.roles c.role is.a_role in
        let kind = number_of_symbol t.types kinds.Type_ table.types c.kind is.a_type in
        let ground : is.ground ≡ table.levels.ground = one_ground xs s is.ground table.levels.ground is.is_ground table.levels.is_ground in (
          record { user = user.0; role = role.0; kind = kind.0; low = c.low; high = c.high },
          record {
            user = name_of c.user;
            role = name_of c.role;
            kind = is.written;
            rest = is.rest;
            begins = is.begins;
            label = (reads_alike xs s table.levels.ground t.users t.levels table.levels.over is.rest is.written c.low c.high).1
                (subst (λ g. IsLabelBy xs s g is.rest is.written c.low c.high) ground is.label);
            a_user = user.1;
            a_role = role.1;
            a_type = type_back is.written c.kind kind.0 kind.1 is.names_kind;
            admitted = elim is.admitted [
              | inl e ↦ inl e
              | inr both ↦ inr (record {
                role = (table.user_roles.members (record { holder = user.0; held = role.0 })).1
                    (record { holder = c.user; held = c.role; joined = both.0; holder_number = user.1; held_number = role.1 });
                kind = (table.role_types.members (record { holder = role.0; held = kind.0 })).1
                    (record { holder = c.role; held = c.kind; joined = both.1; holder_number = role.1; held_number = kind.1 });
                cleared = λ on.
                    let switched = table.levels.over.on.0 on in
                    (clears_alike xs s table.levels.ground t.users t.levels table.levels.over switched c.user user.0 is.a_user user.1 c.low c.high).1
                    (subst (λ g. IsClearedBy s g c.user c.low c.high) ground (both.2 switched));
              })
            ];
          },
          record { user = user.1; role = role.1; kind = kind.1; low = refl; high = refl; a_user = is.a_user; a_role = is.a_role; a_type = is.a_type },
        )

    -- ---- rules

    stands_there : (w : ScopedWord) (n : ℕ) (a : Symbol) → Declared xs s kinds.Type_ a → IsNumbered t.types a n → HasNumber xs s t.types w n → StandsFor xs s kinds.Type_ w a
    stands_there w n a d x has =
        subst (StandsFor xs s kinds.Type_ w) (one_numbered xs s one t.types n kinds.Type_ kinds.Type_ has.kind a has.stands.declared d has.numbered x) has.stands

    module _ (n m : ℕ) (a b : Symbol) (da : Declared xs s kinds.Type_ a) (db : Declared xs s kinds.Type_ b) (na : IsNumbered t.types a n) (nb : IsNumbered t.types b m) where
      target_there : (term : Term ScopedWord) (target : Target) → IsTargetOf xs s t.types term target → Reaches target n m → IsTarget xs s a b term
      target_there (Leaf w) (Types ns) is c = stands_there w m b db nb ((is.members m).0 c)
      target_there (Leaf w) Itself is c = absurd is
      target_there (Name at name) target is c = absurd is
      target_there (Form at op parts) target is c =
          let same : n ≡ m = subst (λ z. Reaches z n m) is.1 c in
          (is.0, one_numbered xs s one t.types m kinds.Type_ kinds.Type_ a b da db (subst (IsNumbered t.types a) same na) nb)

      number_unique : a ≡ b → n ≡ m
      number_unique e = one_number t.types n m (name_of a) table.types.rising na (subst (λ z. IsNumbered t.types z m) (sym e) nb)

      target_back : (term : Term ScopedWord) (target : Target) → IsTargetOf xs s t.types term target → IsTarget xs s a b term → Reaches target n m
      target_back (Leaf w) (Types ns) is st = (is.members m).1 (record { kind = b; stands = st; numbered = nb })
      target_back (Leaf w) Itself is st = absurd is
      target_back (Name at name) target is st = absurd is
      target_back (Form at op parts) target is st = subst (λ z. Reaches z n m) (sym is.1) (number_unique st.1)

      has_target : (term : Term ScopedWord) → IsTarget xs s a b term → HasTarget xs s term
      has_target (Leaf w) st = (b, st)
      has_target (Name at name) st = absurd st
      has_target (Form at op parts) st = st.0

    module _ (n m : Numbers) (a b : Context) (number bit : ℕ) (c : Symbol) (p : List ℕ) (sa : SameContext xs s t n a) (sb : SameContext xs s t m b)
        (sp : SamePermission xs s t number bit c p) (on : ℕ → Bool) (v : Settings) (same : AreSameSettings (boolean_names t.booleans) on v) (keyword : Keyword) (rules : List Rule)
        (given : AreRulesOf xs s t.types t.classes (boolean_names t.booleans) keyword rules) where
      cover_there : HasCover on rules n.kind m.kind number bit → IsCovered xs s v keyword a.kind b.kind c p
      cover_there is =
          let r = is.rule in
          let k = given.only r is.is_rule in
          let gives = k.2 in
          let asked = k.1 in
          let row : gives.row ≡ sp.row = same_Some _ _ (sym gives.is_row ∙ ap (slice_get t.classes) is.covers.of_class ∙ sp.is_row) in
          let by = asked.by in
          let class_ : k.0.class_ ≡ c =
          one kinds.Class kinds.Class k.0.class_ c (pair_declared xs s k.0.class_permission k.0.class_ by.permission.0 by.permission.1) sp.a_class
          (sym gives.named ∙ ap (λ z. z.name) row ∙ sp.named) in
          let has = (gives.mask bit).0 is.covers.permits in
          let permission : has.permission ≡ p = same_Some _ _ (sym has.is_permission ∙ ap (λ z. slice_get z.permissions bit) row ∙ sp.is_permission) in
          record {
            item = asked.item;
            chosen = subst (IsChosen xs s v) by.branch ((branches_agree xs s v (boolean_names t.booleans) on same k.0.branch r.branch gives.branch).0 is.covers.active);
            covers = record {
              is_item = asked.is_item;
              enabled = by.enabled;
              is_keyword = by.is_keyword;
              source_word = k.0.source;
              target_term = k.0.target;
              class_permission = k.0.class_permission;
              says = by.says;
              has_source = stands_there k.0.source n.kind a.kind sa.a_type sa.kind ((gives.source.members n.kind).0 is.covers.has_source);
              has_target = target_there n.kind m.kind a.kind b.kind sa.a_type sb.a_type sa.kind sb.kind k.0.target r.target gives.target is.covers.has_target;
              permits = subst (λ q. HasPair xs s k.0.class_permission c q) permission (subst (λ z. HasPair xs s k.0.class_permission z has.permission) class_ has.gives);
            };
          }

      cover_back : IsCovered xs s v keyword a.kind b.kind c p → HasCover on rules n.kind m.kind number bit
      cover_back covered =
          let is = covered.covers in
          let k : Case = record { branch = covered.item.branch; source = is.source_word; target = is.target_term; class_permission = is.class_permission; class_ = c } in
          let found = given.each k (record {
            item = covered.item;
            is_item = is.is_item;
            by = record {
              enabled = is.enabled;
              is_keyword = is.is_keyword;
              branch = refl;
              taken = chosen_is_said xs s v covered.item.branch covered.chosen;
              says = is.says;
              source = (a.kind, is.has_source);
              target = has_target n.kind m.kind a.kind b.kind sa.a_type sb.a_type sa.kind sb.kind is.target_term is.has_target;
              permission = (p, is.permits);
            };
          }) in
          let r = found.0 in
          let gives = found.1 in
          let class_number : r.class ≡ number = one_class_number t.classes r.class number gives.row sp.row table.classes.rising gives.is_row sp.is_row (gives.named ∙ sym sp.named) in
          let row : gives.row ≡ sp.row = same_Some _ _ (sym gives.is_row ∙ ap (slice_get t.classes) class_number ∙ sp.is_row) in
          record {
            rule = r;
            is_rule = found.2;
            covers = record {
              active = (branches_agree xs s v (boolean_names t.booleans) on same covered.item.branch r.branch gives.branch).1 covered.chosen;
              has_source = (gives.source.members n.kind).1 (record { kind = a.kind; stands = is.has_source; numbered = sa.kind });
              has_target = target_back n.kind m.kind a.kind b.kind sa.a_type sb.a_type sa.kind sb.kind is.target_term r.target gives.target is.has_target;
              of_class = class_number;
              permits = (gives.mask bit).1 (record { permission = p; is_permission = ap (λ z. slice_get z.permissions bit) row ∙ sp.is_permission; gives = is.permits });
            };
          }

    cover_as : (keyword : Keyword) (rules : List Rule) → AreRulesOf xs s t.types t.classes (boolean_names t.booleans) keyword rules → CoverAs xs s t keyword rules
    cover_as keyword rules given =
        λ on v same n m a b number bit c p sa sb sp.
        (cover_there n m a b number bit c p sa sb sp on v same keyword rules given, cover_back n m a b number bit c p sa sb sp on v same keyword rules given)

    -- ---- changes of role

    module _ (n m : Numbers) (a b : Context) (sa : SameContext xs s t n a) (sb : SameContext xs s t m b) where
      let_there : Contains t.role_allows (record { holder = n.role; held = m.role }) → MayChange xs s a.role b.role
      let_there link = joined_from keywords.RoleAllow kinds.Role kinds.Role t.roles t.roles a.role b.role n.role m.role sa.a_role sb.a_role sa.role sb.role ((table.role_allows.members _).0 link)

      let_back : MayChange xs s a.role b.role → Contains t.role_allows (record { holder = n.role; held = m.role })
      let_back joined = (table.role_allows.members _).1 (record { holder = a.role; held = b.role; joined = joined; holder_number = sa.role; held_number = sb.role })

      same_role : n.role ≡ m.role → a.role ≡ b.role
      same_role e = one_numbered xs s one t.roles m.role kinds.Role kinds.Role a.role b.role sa.a_role sb.a_role (subst (IsNumbered t.roles a.role) e sa.role) sb.role

      same_number : a.role ≡ b.role → n.role ≡ m.role
      same_number e = one_number t.roles n.role m.role (name_of a.role) table.roles.rising sa.role (subst (λ z. IsNumbered t.roles z m.role) (sym e) sb.role)

      module _ (number bit : ℕ) (c : Symbol) (p : List ℕ) (sp : SamePermission xs s t number bit c p) where
        bars_there : Bars t n m number bit → IsBarred xs s a b c p
        bars_there is =
            let row : is.row ≡ sp.row = same_Some _ _ (sym is.is_row ∙ sp.is_row) in
            let permission : is.permission ≡ p = same_Some _ _ (sym is.is_permission ∙ ap (λ (z : Class). slice_get z.permissions bit) row ∙ sp.is_permission) in
            record {
              of_process = sym sp.named ∙ ap (λ (z : Class). z.name) (sym row) ∙ is.of_process;
              transition = subst IsTransition permission is.transition;
              changes = λ e. is.changes (same_number e);
              not_let = λ joined. is.not_let (let_back joined);
            }

        bars_back : IsBarred xs s a b c p → Bars t n m number bit
        bars_back is = record {
          row = sp.row;
          is_row = sp.is_row;
          of_process = sp.named ∙ is.of_process;
          permission = p;
          is_permission = sp.is_permission;
          transition = is.transition;
          changes = λ e. is.changes (same_role e);
          not_let = λ link. is.not_let (let_there link);
        }

    bars_as : BarsAs xs s t
    bars_as n m a b number bit c p sa sb sp = (bars_there n m a b sa sb number bit c p sp, bars_back n m a b sa sb number bit c p sp)

    pub table_agrees : Agrees xs s t
    table_agrees = record {
      read = reads;
      found = finds;
      allow = cover_as keywords.Allow t.rules.allow table.rules.allow;
      auditallow = cover_as keywords.AuditAllow t.rules.auditallow table.rules.auditallow;
      dontaudit = cover_as keywords.DontAudit t.rules.dontaudit table.rules.dontaudit;
      constraints = meets_as xs s one t table;
      change = bars_as;
    }
