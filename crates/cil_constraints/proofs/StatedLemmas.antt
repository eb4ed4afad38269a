-- The constraints of one statement.
use Rattle.std.specs.Prelude.{Contains, Option, Some, None}
use Rattle.std.proofs.Common.{◌≡◌, ℕ, suc, ◌++◌, Bool, true, false, List, [], ◌∷◌, drop, get_or, length, map, refl, sym, ◌∙◌, ap, subst, inl, inr}
use Rattle.std.proofs.Math.Seq.{drop-append_seam}
use Rattle.std.proofs.lemmas.Bool.{true≢false}
use Rattle.std.proofs.lemmas.List.{append-nil, length-map, map-append}
use Rattle.std.proofs.lemmas.Option.{none-some, same_Some}
use Rattle.cil_base.specs.Lists.{contains_cases, contains_here, contains_none}
use Rattle.cil_base.specs.MadeLists.{contains_map, from_map}
use Rattle.cil_syntax.specs.declared.kind.Kind.{Kind}
use Rattle.cil_syntax.specs.declared.kind.Kind.TheVariants as kinds
use Rattle.cil_syntax.specs.declared.term.Term as rust
use Rattle.cil_syntax.specs.declared.term.Word.{Word}
use Rattle.cil_syntax.specs.Said.{all_said, said_of}
use Rattle.cil_syntax.specs.Scopes.{ScopedWord}
use Rattle.cil_syntax.specs.Terms.{Term, Terms, nil, cons}
use Rattle.cil_macros.specs.Item.{Item, OptSet, all_replaced, is_enabled}
use Rattle.cil_macros.proofs.FormLemmas.{across, all_across}
use Rattle.cil_classes.specs.names.Declarations.{Declared, Symbol}
use Rattle.cil_classes.specs.names.Resolves.{all_wanted_in, wanted_in}
use Rattle.cil_classes.specs.known.DeclaredKnown.{Known}
use Rattle.cil_classes.specs.known.Known.{BeginWith, IsKnown, enabled_in, meant_by, value_in, wanted_with}
use Rattle.cil_classes.specs.known.Numbers.{AreApart}
use Rattle.cil_classes.specs.declared.row.Class.{Class}
use Rattle.cil_classes.specs.declared.row.ClassId.{ClassId}
use Rattle.cil_classes.specs.Given.{HasPair, of_class, of_map, of_name}
use Rattle.cil_classes.specs.Perms.{AreMasksOf, IsMaskOfClass}
use Rattle.cil_classes.proofs.PartLemmas.{one_class}
use Rattle.cil_constraints.specs.declared.mask.Constraint.{Constraint}
use Rattle.cil_constraints.specs.declared.step.Step.{Step}
use Rattle.cil_constraints.specs.Compiled.{ConstraintCase, IsConstraintOf}
use Rattle.cil_constraints.specs.Constrained.{IsConstraining}
use Rattle.cil_constraints.specs.Expressions.{Expression, steps_of}
use Rattle.cil_constraints.specs.Numbered.{IsExpressionOf}
use Rattle.cil_constraints.specs.Saying.{said}
use Rattle.cil_constraints.specs.Pushed.{IsUnsaid}
use Rattle.cil_constraints.specs.Stated.{AreBehind, CaseBy, IsMade, IsMadeIf, constraint_with}
use Rattle.cil_constraints.specs.declared.push.Standing.{Standing}
use Rattle.cil_constraints.proofs.PushLemmas.{just_two}

-- ---- two terms

abbrev count : {L : Type 0} → Terms L → ℕ
count nil = 0
count (cons t ts) = suc (count ts)

abbrev pub first_or : {L : Type 0} → Term L → Terms L → Term L
first_or other nil = other
first_or other (cons t ts) = t

abbrev pub rest_in : {L : Type 0} → Terms L → Terms L
rest_in nil = nil
rest_in (cons t ts) = ts

count_across : (f : Word → ScopedWord) (m : ℕ) (ts : List rust.Term) → count (all_across f (all_said m ts)) ≡ length ts
unfolding all_replaced
count_across f m [] = refl
count_across f m (t ∷ ts) = ap suc (count_across f m ts)

two_across : (f : Word → ScopedWord) (a b : Term Word) → all_across f (cons a (cons b nil)) ≡ cons (across f a) (cons (across f b) nil)
unfolding all_replaced
two_across f a b = refl

two_wanted : (a b : Term ScopedWord) → all_wanted_in (cons a (cons b nil)) ≡ wanted_in a ++ (wanted_in b ++ [])
unfolding all_wanted_in
two_wanted a b = refl

-- what is said, where it is two terms
pub are_two : (m : ℕ) (ts : List rust.Term) (a b d e : rust.Term) → length ts ≡ 2 → a ≡ get_or ts 0 d → b ≡ get_or ts 1 e → all_said m ts ≡ cons (said_of m a) (cons (said_of m b) nil)
are_two m ts a b d e len is so = ap (all_said m) (just_two ts a b d e len is so)

-- ---- the meanings of what a constraint asks for

module _ (k : Known) (x : Item) (f : Word → ScopedWord) (args : Terms Word) (says : x.args ≡ all_across f args) (first second : Term Word) (two : args ≡ cons first (cons second nil))
    (words : List (Option ℕ)) (are : words ≡ map (value_in k) (all_wanted_in x.args)) where
  all_meant : words ≡ meant_by k f first ++ meant_by k f second
  all_meant =
      are
      ∙ ap (λ ts. map (value_in k) (all_wanted_in ts)) (says ∙ ap (all_across f) two ∙ two_across f first second)
      ∙ ap (map (value_in k)) (two_wanted (across f first) (across f second))
      ∙ map-append (value_in k) (wanted_with f first) (wanted_with f second ++ [])
      ∙ ap (λ ls. meant_by k f first ++ map (value_in k) ls) (append-nil (wanted_with f second))

  -- they begin with those of the first term
  pub first_begins : BeginWith k f first words
  first_begins = record { more = meant_by k f second; are = all_meant }

  -- and behind these are those of the second
  pub second_begins : (rest : List (Option ℕ)) → rest ≡ drop (length (wanted_with f first)) words → BeginWith k f second rest
  second_begins rest left = record {
    more = [];
    are =
        left
        ∙ ap (drop (length (wanted_with f first))) all_meant
        ∙ ap (λ n. drop n (meant_by k f first ++ meant_by k f second)) (sym (length-map (wanted_with f first) (value_in k)))
        ∙ drop-append_seam (meant_by k f first) (meant_by k f second)
        ∙ sym (append-nil (meant_by k f second));
  }

-- ---- whether a term asks for something

module _ (b : Bool) (sets : Standing) (m : ℕ) (t : rust.Term) (words : List (Option ℕ)) (ss : List Step) where
  pub not_made : b ≡ false → IsMadeIf b sets m t words ss → IsUnsaid m t
  not_made is p = subst (λ c. IsMadeIf c sets m t words ss) is p

  pub is_made : b ≡ true → IsMadeIf b sets m t words ss → IsMade sets m t words ss
  is_made is p = subst (λ c. IsMadeIf c sets m t words ss) is p

-- ---- statements without constraints

-- a statement without a case adds nothing
pub none_behind : {X K Y : Type 0} (asked : X → K → Type 0) (gives : K → Y → Type 0) (x : X) (old : List Y) → ((k : K) → asked x k → ⊥) → AreBehind asked gives x old old
none_behind asked gives x old none = record {
  constraints = [];
  behind = sym (append-nil old);
  are = record {
    each = λ z k c a. elim (contains_cases z x [] c) [
      | inl e ↦ absurd (none k (subst (λ w. asked w k) (sym e) a))
      | inr n ↦ absurd (contains_none z n)
    ];
    only = λ y c. absurd (contains_none y c);
  };
}

-- the class of a permission that is given is declared
pair_declared : (xs : List Item) (s : OptSet) (cp : Term ScopedWord) (c : Symbol) (p : List ℕ) → HasPair xs s cp c p → Declared xs s kinds.Class c
pair_declared xs s cp c p (of_class at word e d q stands value) = stands.declared
pair_declared xs s cp c p (of_map at word e inner m d r q stands value given pair) = pair_declared xs s inner d q pair
pair_declared xs s cp c p (of_name word inner n d q stands given pair) = pair_declared xs s inner d q pair

module _ (xs : List Item) (k : Known) (x : Item) where
  abbrev IsCaseOf : ConstraintCase → Type 0
  IsCaseOf = CaseBy xs (enabled_in k) x

  pub other_keyword : (IsConstraining xs (enabled_in k) x.keyword → ⊥) → (c : ConstraintCase) → IsCaseOf c → ⊥
  other_keyword other c by = other by.constraining

  pub left_out : is_enabled (enabled_in k) x ≡ false → (c : ConstraintCase) → IsCaseOf c → ⊥
  left_out out c by = true≢false (sym by.enabled ∙ out)

  module _ (f : Word → ScopedWord) (args : Terms Word) (says : x.args ≡ all_across f args) where
    pub not_two : (m : ℕ) (ts : List rust.Term) → args ≡ all_said m ts → (length ts ≡ 2 → ⊥) → (c : ConstraintCase) → IsCaseOf c → ⊥
    not_two m ts are other c by = other (sym (count_across f m ts) ∙ ap count (ap (all_across f) (sym are) ∙ sym says ∙ by.says))

    module _ (class_permission term : Term Word) (two : args ≡ cons class_permission (cons term nil)) where
      is_two : x.args ≡ cons (across f class_permission) (cons (across f term) nil)
      is_two = says ∙ ap (all_across f) two ∙ two_across f class_permission term

      class_of : (c : ConstraintCase) → IsCaseOf c → c.class_permission ≡ across f class_permission
      class_of c by = ap (first_or (across f class_permission)) (sym by.says ∙ is_two)

      term_of : (c : ConstraintCase) (by : IsCaseOf c) → by.term ≡ across f term
      term_of c by = ap (λ ts. first_or (across f term) (rest_in ts)) (sym by.says ∙ is_two)

      pub without_term : said (across f term) ≡ None → (c : ConstraintCase) → IsCaseOf c → ⊥
      without_term unsaid c by = none-some c.expression (sym unsaid ∙ ap said (sym (term_of c by)) ∙ by.said)

      module _ (names : Kind → List (List ℕ)) (known : IsKnown k xs names) (apart : AreApart k.lookup.names.now (enabled_in k) k.numbers.now) (classes : List Class) (ss : List Step)
          (d : Expression (List ScopedWord)) (asks : said (across f term) ≡ Some d) (tree : Expression (List ℕ)) (is_tree : IsExpressionOf xs (enabled_in k) names d tree) (steps : ss ≡ steps_of tree)
          (masks : List (ClassId × ℕ)) (masked : AreMasksOf xs (enabled_in k) classes (across f class_permission) masks) where
        abbrev case_for : Symbol → ConstraintCase
        case_for c = record { class_permission = across f class_permission; expression = d; class_ = c }

        expression_of : (c : ConstraintCase) → IsCaseOf c → c.expression ≡ d
        expression_of c by = same_Some c.expression d (sym by.said ∙ ap said (term_of c by) ∙ asks)

        case_is : (c : ConstraintCase) → IsCaseOf c → c ≡ case_for c.class_
        case_is c by = let p = class_of c by in let e = expression_of c by in λ i. record { class_permission = p i; expression = e i; class_ = c.class_ }

        pair_of : (c : ConstraintCase) (by : IsCaseOf c) → HasPair xs (enabled_in k) (across f class_permission) c.class_ by.permission.0
        pair_of c by = subst (λ t. HasPair xs (enabled_in k) t c.class_ by.permission.0) (class_of c by) by.permission.1

        is_record : (m : ClassId × ℕ) (mask : IsMaskOfClass xs (enabled_in k) classes (across f class_permission) m)
            → IsConstraintOf xs (enabled_in k) names classes (case_for mask.symbol) (constraint_with ss m)
        is_record m mask = record {
          expression = tree;
          is_expression = is_tree;
          steps = steps;
          row = mask.row;
          is_row = mask.is_row;
          named = mask.named;
          mask = λ bit. (
            (λ set. let b = (mask.bits bit).0 set in record { permission = b.0; is_permission = b.1; gives = b.2 }),
            (λ b. (mask.bits bit).1 (b.permission, b.is_permission, b.gives)),
          );
        }

        -- each case has the constraint of the mask of its class
        record_for : (c : ConstraintCase) → IsCaseOf c → (y : Constraint) × IsConstraintOf xs (enabled_in k) names classes c y × Contains (map (constraint_with ss) masks) y
        record_for c by =
            let pair = pair_of c by in
            let among = masked.all c.class_ by.permission.0 pair in
            let mask = masked.each among.mask among.there in
            let row : among.row ≡ mask.row = same_Some among.row mask.row (sym among.is_row ∙ mask.is_row) in
            let one : mask.symbol ≡ c.class_ = one_class k xs names known apart mask.symbol c.class_ (pair_declared xs (enabled_in k) (across f class_permission) mask.symbol mask.some.0 mask.some.1)
            (pair_declared xs (enabled_in k) (across f class_permission) c.class_ by.permission.0 pair) (sym mask.named ∙ ap (λ (r : Class). r.name) (sym row) ∙ among.named) in (
              constraint_with ss among.mask,
              subst (λ d. IsConstraintOf xs (enabled_in k) names classes d (constraint_with ss among.mask)) (ap case_for one ∙ sym (case_is c by)) (is_record among.mask mask),
              contains_map (constraint_with ss) masks among.mask among.there,
            )

        module _ (constraining : IsConstraining xs (enabled_in k) x.keyword) (enabled : is_enabled (enabled_in k) x ≡ true) where
          a_case : (m : ClassId × ℕ) (mask : IsMaskOfClass xs (enabled_in k) classes (across f class_permission) m) → IsCaseOf (case_for mask.symbol)
          a_case m mask = record {
            enabled = enabled;
            constraining = constraining;
            term = across f term;
            says = is_two;
            said = asks;
            permission = mask.some;
          }

          -- each constraint is that of the class of its mask
          case_of : (y : Constraint) → Contains (map (constraint_with ss) masks) y
              → (z : Item) × (c : ConstraintCase) × Contains (x ∷ []) z × CaseBy xs (enabled_in k) z c × IsConstraintOf xs (enabled_in k) names classes c y
          case_of y c =
              let (m, cm, of_mask) = from_map (constraint_with ss) masks y c in
              let mask = masked.each m cm in
              (x, case_for mask.symbol, contains_here x [], a_case m mask, subst (IsConstraintOf xs (enabled_in k) names classes (case_for mask.symbol)) of_mask (is_record m mask))

          pub some_behind : (old new : List Constraint) → new ≡ old ++ map (constraint_with ss) masks → AreBehind (CaseBy xs (enabled_in k)) (IsConstraintOf xs (enabled_in k) names classes) x old new
          some_behind old new behind = record {
            constraints = map (constraint_with ss) masks;
            behind = behind;
            are = record {
              each = λ z c cz by. elim (contains_cases z x [] cz) [
                | inl e ↦ record_for c (subst (λ w. CaseBy xs (enabled_in k) w c) (sym e) by)
                | inr n ↦ absurd (contains_none z n)
              ];
              only = case_of;
            };
          }
