-- The constraints of statements that are the same but for the places of what they say.
use Rattle.std.specs.Prelude.{if◌then◌else◌, Option, Some, None}
use Rattle.std.specs.List.{list_all}
use Rattle.std.proofs.Common.{◌≡◌, ℕ, List, [], ◌∷◌, ◌++◌, refl, sym, ◌∙◌, ap, subst, inl, inr}
use Rattle.cil_base.specs.Lists.{contains_cases, contains_here, contains_none}
use Rattle.cil_syntax.specs.declared.kind.Kind.{Kind}
use Rattle.cil_syntax.specs.declared.term.Op.{Op}
use Rattle.cil_syntax.specs.Scopes.{ScopedWord}
use Rattle.cil_syntax.specs.Terms.{Term, Leaf, Name, Form, Terms, nil, cons}
use Rattle.cil_macros.specs.Item.{Item, OptSet, all_replaced, replaced}
use Rattle.cil_macros.specs.ListTerms.{AreAlike, IsAlike, all_spotless, spotless}
use Rattle.cil_classes.specs.names.Declarations.{name_of}
use Rattle.cil_classes.specs.declared.row.Class.{Class}
use Rattle.cil_classes.specs.Given.{HasPair}
use Rattle.cil_classes.proofs.AlikeLemmas.{IsLike, like_back, pair_alike}
use Rattle.cil_constraints.specs.declared.mask.Constraint.{Constraint}
use Rattle.cil_constraints.specs.declared.step.Relation.{Relation}
use Rattle.cil_constraints.specs.declared.variable.Variable.{Variable}
use Rattle.cil_constraints.specs.Compiled.{ConstraintCase, IsConstraintOf}
use Rattle.cil_constraints.specs.Constrained.{IsConstraining}
use Rattle.cil_constraints.specs.Joins.{joined_or, joins_of}
use Rattle.cil_constraints.specs.Numbered.{IsExpressionOf}
use Rattle.cil_constraints.specs.Saying.{all_said, both_there, compared, is_union, leaf_of, leaves, listed, relation_of, said, variable_in, with_operand}
use Rattle.cil_constraints.specs.Stated.{AreBehind, CaseBy}
use Rattle.cil_constraints.proofs.StatedLemmas.{first_or, rest_in}

-- ---- what they ask for

leaf_alike : (t : Term ScopedWord) → leaf_of (spotless t) ≡ leaf_of t
unfolding replaced
leaf_alike (Leaf w) = refl
leaf_alike (Name at bytes) = refl
leaf_alike (Form at op ts) = refl

leaves_alike : (ts : Terms ScopedWord) → leaves (all_spotless ts) ≡ leaves ts
unfolding all_replaced
leaves_alike nil = refl
leaves_alike (cons t ts) = λ i. leaf_alike t i ++ leaves_alike ts i

listed_alike : (t : Term ScopedWord) → listed (spotless t) ≡ listed t
unfolding replaced
listed_alike (Leaf w) = refl
listed_alike (Name at bytes) = refl
listed_alike (Form at op ts) = λ i. if is_union op then Some (leaves_alike ts i) else None

variable_alike : (t : Term ScopedWord) → variable_in (spotless t) ≡ variable_in t
unfolding replaced
variable_alike (Leaf w) = refl
variable_alike (Name at bytes) = refl
variable_alike (Form at op ts) = refl

both_alike : (r : Option Relation) (v : Option Variable) (t : Term ScopedWord) → both_there r v (spotless t) ≡ both_there r v t
both_alike None v t = refl
both_alike (Some relation) None t = refl
both_alike (Some relation) (Some v) t = λ i. with_operand relation v (listed_alike t i) (variable_alike t i)

compared_alike : (op : Op) (ts : Terms ScopedWord) → compared op (all_spotless ts) ≡ compared op ts
unfolding all_replaced
compared_alike op nil = refl
compared_alike op (cons v nil) = refl
compared_alike op (cons v (cons t nil)) = ap (λ w. both_there (relation_of op) w (spotless t)) (variable_alike v) ∙ both_alike (relation_of op) (variable_in v) t
compared_alike op (cons v (cons t (cons u ts))) = refl

mutual
  unfolding replaced said

  said_spotless : (t : Term ScopedWord) → said (spotless t) ≡ said t
  said_spotless (Leaf w) = refl
  said_spotless (Name at bytes) = refl
  said_spotless (Form at op ts) = λ i. joined_or (joins_of op) (all_said_spotless ts i) (compared_alike op ts i)

  all_said_spotless : (ts : Terms ScopedWord) → all_said (all_spotless ts) ≡ all_said ts
  all_said_spotless nil = refl
  all_said_spotless (cons t ts) = λ i. said_spotless t i ∷ all_said_spotless ts i

said_alike : (t u : Term ScopedWord) → IsAlike t u → said t ≡ said u
said_alike t u same = sym (said_spotless t) ∙ ap said same ∙ said_spotless u

-- ---- two terms

none_alike : (us : Terms ScopedWord) → AreAlike nil us → us ≡ nil
unfolding all_replaced
none_alike nil e = refl
none_alike (cons u us) e = absurd (let f : nil ≡ cons (spotless u) (all_spotless us) = e in cc)

cons_alike : (t : Term ScopedWord) (ts us : Terms ScopedWord) → AreAlike (cons t ts) us → (u : Term ScopedWord) × (vs : Terms ScopedWord) × (us ≡ cons u vs) × IsAlike t u × AreAlike ts vs
unfolding all_replaced
cons_alike t ts nil e = absurd (let f : cons (spotless t) (all_spotless ts) ≡ nil = e in cc)
cons_alike t ts (cons u vs) e = (u, vs, refl, ap (first_or (spotless t)) e, ap rest_in e)

two_alike : (a b : Term ScopedWord) (us : Terms ScopedWord) → AreAlike (cons a (cons b nil)) us → (c d : Term ScopedWord) × (us ≡ cons c (cons d nil)) × IsAlike a c × IsAlike b d
two_alike a b us same =
    let (c, vs, first, one, rest) = cons_alike a (cons b nil) us same in
    let (d, ws, second, other, last) = cons_alike b nil vs rest in
    (c, d, first ∙ ap (cons c) (second ∙ ap (cons d) (none_alike ws last)), one, other)

-- ---- what they give

module _ (xs : List Item) (s : OptSet) (names : Kind → List (List ℕ)) (classes : List Class) where
  -- cases with alike class permissions have the same constraint
  constraint_like : (a b : ConstraintCase) → a.expression ≡ b.expression → a.class_ ≡ b.class_ → IsAlike a.class_permission b.class_permission → (c : Constraint)
      → IsConstraintOf xs s names classes a c → IsConstraintOf xs s names classes b c
  constraint_like a b expression class_ same c of = record {
    expression = of.expression;
    is_expression = subst (λ d. IsExpressionOf xs s names d of.expression) expression of.is_expression;
    steps = of.steps;
    row = of.row;
    is_row = of.is_row;
    named = of.named ∙ ap name_of class_;
    mask = λ bit. (
      (λ set. let h = (of.mask bit).0 set in
          record {
            permission = h.permission;
            is_permission = h.is_permission;
            gives = subst (λ d. HasPair xs s b.class_permission d h.permission) class_ (pair_alike xs s a.class_permission b.class_permission a.class_ h.permission same h.gives);
          }),
      (λ h. (of.mask bit).1 (record {
        permission = h.permission;
        is_permission = h.is_permission;
        gives = subst (λ d. HasPair xs s a.class_permission d h.permission) (sym class_) (pair_alike xs s b.class_permission a.class_permission b.class_ h.permission (sym same) h.gives);
      })),
    );
  }

  -- each case of the one is like one of the other
  record CaseLike (y : Item) (c : ConstraintCase) : Type 0 where
    pub case : ConstraintCase
    pub by : CaseBy xs s y case
    pub there : (r : Constraint) → IsConstraintOf xs s names classes case r → IsConstraintOf xs s names classes c r
    pub back : (r : Constraint) → IsConstraintOf xs s names classes c r → IsConstraintOf xs s names classes case r

  case_like : (x y : Item) → IsLike x y → (c : ConstraintCase) → CaseBy xs s x c → CaseLike y c
  case_like x y like c by =
      let (p, t, says, first, second) = two_alike c.class_permission by.term y.args (subst (λ ts. AreAlike ts y.args) by.says like.args) in
      let other : ConstraintCase = record { class_permission = p; expression = c.expression; class_ = c.class_ } in
      record {
        case = other;
        by = record {
          enabled = ap (list_all s) (sym like.round) ∙ by.enabled;
          constraining = subst (IsConstraining xs s) like.keyword by.constraining;
          term = t;
          says = says;
          said = sym (said_alike by.term t second) ∙ by.said;
          permission = (by.permission.0, pair_alike xs s c.class_permission p c.class_ by.permission.0 first by.permission.1);
        };
        there = constraint_like other c refl refl (sym first);
        back = constraint_like c other refl refl first;
      }

  -- so they have the same constraints
  pub behind_like : (x y : Item) → IsLike y x → (old new : List Constraint) → AreBehind (CaseBy xs s) (IsConstraintOf xs s names classes) y old new
      → AreBehind (CaseBy xs s) (IsConstraintOf xs s names classes) x old new
  behind_like x y like old new b = record {
    constraints = b.constraints;
    behind = b.behind;
    are = record {
      each = λ z c cz by. elim (contains_cases z x [] cz) [
        | inl e ↦
            let l = case_like x y (like_back y x like) c (subst (λ w. CaseBy xs s w c) (sym e) by) in
            let r = b.are.each y l.case (contains_here y []) l.by in
            (r.0, l.there r.0 r.1, r.2)
        | inr n ↦ absurd (contains_none z n)
      ];
      only = λ r cr.
          let (z, d, cz, by, of) = b.are.only r cr in
          elim (contains_cases z y [] cz) [
            | inl e ↦
                let l = case_like y x like d (subst (λ w. CaseBy xs s w d) (sym e) by) in
                (x, l.case, contains_here x [], l.by, l.back r of)
            | inr n ↦ absurd (contains_none z n)
          ];
    };
  }
