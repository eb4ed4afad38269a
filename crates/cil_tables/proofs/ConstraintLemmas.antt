-- What constraints say of numbers is what they say of symbols.
use Rattle.std.specs.Prelude.{Contains, IsBitSet, Some, slice_get}
use Rattle.std.specs.Ordering.{nat_cmp}
use Rattle.std.specs.List.Sorted.{IsStrictlySortedBy}
use Rattle.std.proofs.Common.{◌≡◌, ℕ, true, List, refl, sym, ◌∙◌, ap, subst}
use Rattle.std.proofs.lemmas.Option.{same_Some}
use Rattle.cil_base.specs.Lists.{Lists, text_cmp}
use Rattle.cil_syntax.specs.declared.kind.Kind.{Kind}
use Rattle.cil_syntax.specs.declared.kind.Kind.TheVariants as kinds
use Rattle.cil_syntax.specs.Scopes.{ScopedWord}
use Rattle.cil_macros.specs.Item.{Item, OptSet}
use Rattle.cil_names.specs.Declarations.{Symbol, name_of}
use Rattle.cil_known.specs.declared.known.Known.{Known}
use Rattle.cil_known.specs.Known.{AreStanding, IsNumbered}
use Rattle.cil_classes.specs.declared.row.Class.{Class}
use Rattle.cil_classes.specs.Given.{HasPair}
use Rattle.cil_neverallow.proofs.rules_lemmas.RuleLemmas.{pair_declared}
use Rattle.cil_constraints.specs.declared.expr.Context.{Context as Numbers}
use Rattle.cil_constraints.specs.declared.mask.Constraint.{Constraint}
use Rattle.cil_constraints.specs.declared.push.Standing.{Standing}
use Rattle.cil_constraints.specs.declared.step.Part.{Part}
use Rattle.cil_constraints.specs.declared.step.Part.TheVariants as parts
use Rattle.cil_constraints.specs.Compiled.{ConstraintCase, IsConstraintOf}
use Rattle.cil_constraints.specs.Contexts.{Context, kind_of}
use Rattle.cil_constraints.specs.Expressions.{Expression, Negated, Both, Either, Compared, Ranked, Inside}
use Rattle.cil_constraints.specs.Numbered.{HasNumberAmong, IsContextOf, IsExpressionOf}
use Rattle.cil_constraints.specs.Permitted.{AllMet}
use Rattle.cil_constraints.specs.Pushed.{AreSets}
use Rattle.cil_constraints.specs.Truth.{is_true}
use Rattle.cil_constraints.proofs.OneTree.{true_steps}
use Rattle.cil_constraints.proofs.TruthLemmas.{TellApart, truth_tells}
use Rattle.cil_tables.specs.Agrees.{AllHold, MeetsAs, SameContext, SamePermission}
use Rattle.cil_tables.specs.Compiled.{AreConstraints, IsTable}
use Rattle.cil_tables.specs.Table.{Table, names_in}
use Rattle.cil_tables.proofs.SymbolLemmas.{HaveOneSymbol, one_class_number, one_number, one_numbered}

-- the words of users, of roles and of types stand for these
pub all_sets : (k : Known) (xs : List Item) (names : Kind → List (List ℕ)) (sets : Standing) → AreStanding k xs names kinds.User sets.users.now → AreStanding k xs names kinds.Role sets.roles.now
    → AreStanding k xs names kinds.Type_ sets.types.now → AreSets k xs names sets
all_sets k xs names sets users roles types parts.User = users
all_sets k xs names sets users roles types parts.Role = roles
all_sets k xs names sets users roles types parts.Kind = types

-- ---- by sections of the same names

module _ (xs : List Item) (s : OptSet) where
  among_moved : (names others : Kind → List (List ℕ)) (part : Part) → names (kind_of part) ≡ others (kind_of part) → (words : List ScopedWord) (n : ℕ) → HasNumberAmong xs s names part words n
      → HasNumberAmong xs s others part words n
  among_moved names others part same words n has = record { symbol = has.symbol; among = has.among; numbered = subst (λ z. IsNumbered z has.symbol n) same has.numbered }

  module _ (names others : Kind → List (List ℕ)) (same : (part : Part) → names (kind_of part) ≡ others (kind_of part)) where
    expression_moved : (d : Expression (List ScopedWord)) (e : Expression (List ℕ)) → IsExpressionOf xs s names d e → IsExpressionOf xs s others d e
    expression_moved (Negated d) e (f, is, of) = (f, is, expression_moved d f of)
    expression_moved (Both c d) e (f, g, is, of, og) = (f, g, is, expression_moved c f of, expression_moved d g og)
    expression_moved (Either c d) e (f, g, is, of, og) = (f, g, is, expression_moved c f of, expression_moved d g og)
    expression_moved (Compared part equality) e is = is
    expression_moved (Ranked pair relation) e is = is
    expression_moved (Inside part side equality words) e (set, is, listed) = (
      set,
      is,
      record {
        rising = listed.rising;
        members = λ n. (
          λ c. among_moved names others part (same part) words n ((listed.members n).0 c),
          λ has. (listed.members n).1 (among_moved others names part (sym (same part)) words n has),
        );
      },
    )

    constraint_moved : (classes : List Class) (k : ConstraintCase) (c : Constraint) → IsConstraintOf xs s names classes k c → IsConstraintOf xs s others classes k c
    constraint_moved classes k c is = record {
      expression = is.expression;
      is_expression = expression_moved k.expression is.expression is.is_expression;
      steps = is.steps;
      row = is.row;
      is_row = is.is_row;
      named = is.named;
      mask = is.mask;
    }

    pub constraints_moved : (classes : List Class) (constraints : List Constraint) → AreConstraints xs s names classes constraints → AreConstraints xs s others classes constraints
    constraints_moved classes constraints given = record {
      rising = given.rising;
      each = λ k is. let r = given.each k is in (r.0, constraint_moved classes k r.0 r.1, r.2);
      only = λ r c. let o = given.only r c in (o.0, o.1, constraint_moved classes o.0 r o.2);
    }

-- ---- tables

module _ (xs : List Item) (s : OptSet) (one : HaveOneSymbol xs s) (t : Table) (table : IsTable xs s t) where
  rising : (part : Part) → IsStrictlySortedBy text_cmp (names_in t (kind_of part))
  rising parts.User = table.users.rising
  rising parts.Role = table.roles.rising
  rising parts.Kind = table.types.rising

  apart : TellApart xs s (names_in t)
  apart = record {
    number = λ part u n m at bt. one_number (names_in t (kind_of part)) n m (name_of u) (rising part) at bt;
    symbol = λ part u v n d e at bt. one_numbered xs s one (names_in t (kind_of part)) n (kind_of part) (kind_of part) u v d e at bt;
  }

  numbers_of : (n : Numbers) (a : Context) → SameContext xs s t n a → IsContextOf xs s (names_in t) a n
  numbers_of n a same = record {
    user = same.user;
    role = same.role;
    kind = same.kind;
    low = same.low;
    high = same.high;
    a_user = same.a_user;
    a_role = same.a_role;
    a_type = same.a_type;
  }

  module _ (n m : Numbers) (a b : Context) (number bit : ℕ) (c : Symbol) (p : List ℕ) (sa : SameContext xs s t n a) (sb : SameContext xs s t m b) (sp : SamePermission xs s t number bit c p) where
    meets_there : AllMet n m t.constraints number bit → AllHold xs s a b c p
    meets_there meets e is =
        let k : ConstraintCase = record { class_permission = is.class_permission; expression = e; class_ = c } in
        let found = table.constraints.each k
        (record { keyword = is.keyword; constraining = is.constraining; term = is.term; statement = is.statement; said = is.said; permission = (p, is.on) }) in
        let r = found.0 in
        let of = found.1 in
        let class_number : r.class ≡ number = one_class_number t.classes r.class number of.row sp.row table.classes.rising of.is_row sp.is_row (of.named ∙ sym sp.named) in
        let row : of.row ≡ sp.row = same_Some _ _ (sym of.is_row ∙ ap (slice_get t.classes) class_number ∙ sp.is_row) in
        let set : IsBitSet r.mask bit = (of.mask bit).1 (record { permission = p; is_permission = ap (λ (z : Class). slice_get z.permissions bit) row ∙ sp.is_permission; gives = is.on }) in
        let is_so : is_true n m r.expr ≡ true = meets r found.2 class_number set in
        (truth_tells xs s (names_in t) apart a b n m (numbers_of n a sa) (numbers_of m b sb) e of.expression of.is_expression).1
        (sym (true_steps n m of.expression) ∙ ap (is_true n m) (sym of.steps) ∙ is_so)

    meets_back : AllHold xs s a b c p → AllMet n m t.constraints number bit
    meets_back all r is_there on_class set =
        let (k, asked, of) = table.constraints.only r is_there in
        let row : of.row ≡ sp.row = same_Some _ _ (sym of.is_row ∙ ap (slice_get t.classes) on_class ∙ sp.is_row) in
        let class_ : k.class_ ≡ c =
        one kinds.Class kinds.Class k.class_ c (pair_declared xs s k.class_permission k.class_ asked.permission.0 asked.permission.1) sp.a_class
        (sym of.named ∙ ap (λ (z : Class). z.name) row ∙ sp.named) in
        let has = (of.mask bit).0 set in
        let permission : has.permission ≡ p = same_Some _ _ (sym has.is_permission ∙ ap (λ (z : Class). slice_get z.permissions bit) row ∙ sp.is_permission) in
        let on : HasPair xs s k.class_permission c p =
        subst (λ q. HasPair xs s k.class_permission c q) permission (subst (λ z. HasPair xs s k.class_permission z has.permission) class_ has.gives) in
        let holds = all k.expression (record {
          keyword = asked.keyword;
          constraining = asked.constraining;
          class_permission = k.class_permission;
          term = asked.term;
          statement = asked.statement;
          said = asked.said;
          on = on;
        }) in
        ap (is_true n m) of.steps ∙ true_steps n m of.expression
        ∙ (truth_tells xs s (names_in t) apart a b n m (numbers_of n a sa) (numbers_of m b sb) k.expression of.expression of.is_expression).0 holds

  pub meets_as : MeetsAs xs s t
  meets_as n m a b number bit c p sa sb sp = (meets_there n m a b number bit c p sa sb sp, meets_back n m a b number bit c p sa sb sp)
