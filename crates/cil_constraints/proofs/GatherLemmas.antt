-- The constraints of all statements.
use Rattle.std.specs.Prelude.{Contains, Some, slice_get, true, false, ◌⊎◌, ◌↔◌}
use Rattle.std.specs.List.Retain.{DiffersFromLast, IsFiltered}
use Rattle.std.specs.List.Sorted.{IsPermutation, IsSorted}
use Rattle.std.specs.Ordering.{eq_by_cmp}
use Rattle.std.proofs.Common.{◌≡◌, ℕ, ◌+◌, ◌<◌, Bool, List, [], ◌∷◌, ◌++◌, length, take, refl, sym, ◌∙◌, ap, subst, inl, inr}
use Rattle.std.proofs.lemmas.List.{take_more}
use Rattle.std.proofs.lemmas.List.Elements.{Contains-append_left, Contains-append_right, Contains-append_cases}
use Rattle.cil_base.specs.Gives.{Gives}
use Rattle.cil_base.specs.Lists.{contains_none}
use Rattle.cil_base.specs.Places.{get_so}
use Rattle.cil_base.specs.Records.{AreRecordsOf}
use Rattle.cil_base.proofs.SortedLists.{sorted_list}
use Rattle.cil_syntax.specs.declared.kind.Keyword.{Keyword}
use Rattle.cil_syntax.specs.declared.kind.Keyword.TheVariants as keywords
use Rattle.cil_macros.specs.Item.{Item, OptSet}
use Rattle.cil_macros.specs.Items.{says_as_written}
use Rattle.cil_mls.specs.OrderFaults.{Switches}
use Rattle.cil_classes.specs.names.Resolves.{is_mapping}
use Rattle.cil_constraints.specs.declared.mask.Constraint.{Constraint}
use Rattle.cil_constraints.specs.Compiled.{ConstraintCase, IsConstraintCase}
use Rattle.cil_constraints.specs.Constrained.{IsConstraining}
use Rattle.cil_constraints.specs.Order.{constraint_cmp, constraint_total}
use Rattle.cil_constraints.specs.Stated.{AreBehind, CaseBy}
use Rattle.cil_constraints.proofs.OrderLemmas.{one_constraint}

-- ---- keywords

abbrev IsOne : Keyword → Bool → Type 0
IsOne keyword on = (keyword ≡ keywords.Constrain) ⊎ ((keyword ≡ keywords.MlsConstrain) × (on ≡ true))

module _ (xs : List Item) (s : OptSet) (keyword : Keyword) (on : Bool) (switched : (on ≡ true) ↔ Switches xs s true) where
  pub constrains : IsOne keyword on → IsConstraining xs s keyword
  constrains is = elim is [ inl e ↦ inl e | inr p ↦ inr (p.0, switched.0 p.1) ]

  pub constrains_back : IsConstraining xs s keyword → IsOne keyword on
  constrains_back is = elim is [ inl e ↦ inl e | inr p ↦ inr (p.0, switched.1 p.1) ]

pub constraint_written : (keyword : Keyword) (on : Bool) → IsOne keyword on → says_as_written keyword ≡ true
constraint_written keyword on is = elim is [ inl e ↦ ap says_as_written e | inr p ↦ ap says_as_written p.0 ]

pub constraint_plain : (xs : List Item) (s : OptSet) (keyword : Keyword) → IsConstraining xs s keyword → is_mapping keyword ≡ false
constraint_plain xs s keyword is = elim is [ inl e ↦ ap is_mapping e | inr p ↦ ap is_mapping p.0 ]

-- ---- statement by statement

-- the first of some items, with the next one
pub taken_there : {X : Type 0} (xs : List X) (k : ℕ) (x : X) → k < length xs → slice_get xs k ≡ Some x → take (k + 1) xs ≡ take k xs ++ x ∷ []
taken_there xs k x within is = take_more xs k x within ∙ ap (λ y. take k xs ++ y ∷ []) (get_so xs k x x is)

module _ {X K Y : Type 0} (asked : X → K → Type 0) (gives : K → Y → Type 0) where
  join : (xs : List X) (x : X) (ys zs : List Y) → AreRecordsOf asked gives xs ys → AreRecordsOf asked gives (x ∷ []) zs → AreRecordsOf asked gives (xs ++ x ∷ []) (ys ++ zs)
  join xs x ys zs r q = record {
    each = λ z k c a. elim (Contains-append_cases xs (x ∷ []) z c) [
      | inl d ↦ let s = r.each z k d a in (s.0, s.1, Contains-append_left ys zs s.0 s.2)
      | inr d ↦ let s = q.each z k d a in (s.0, s.1, Contains-append_right ys zs s.0 s.2)
    ];
    only = λ y c. elim (Contains-append_cases ys zs y c) [
      | inl d ↦ let o = r.only y d in (o.0, o.1, Contains-append_left xs (x ∷ []) o.0 o.2, o.3, o.4)
      | inr d ↦ let o = q.only y d in (o.0, o.1, Contains-append_right xs (x ∷ []) o.0 o.2, o.3, o.4)
    ];
  }

  pub more_records : (xs : List X) (i : ℕ) (x : X) (old new : List Y) → take (i + 1) xs ≡ take i xs ++ x ∷ [] → AreRecordsOf asked gives (take i xs) old → AreBehind asked gives x old new
      → AreRecordsOf asked gives (take (i + 1) xs) new
  more_records xs i x old new taken so_far one =
      subst (AreRecordsOf asked gives (take (i + 1) xs)) (sym one.behind)
      (subst (λ zs. AreRecordsOf asked gives zs (old ++ one.constraints)) (sym taken) (join (take i xs) x old one.constraints so_far one.are))

  pub none_taken : (ys : List Y) → ys ≡ [] → AreRecordsOf asked gives [] ys
  none_taken ys e = record {
    each = λ x k c a. absurd (contains_none x c);
    only = λ y c. absurd (contains_none y (subst (λ zs. Contains zs y) e c));
  }

-- ---- sorted

module _ (xs : List Item) (s : OptSet) (gives : ConstraintCase → Constraint → Type 0) where
  case_by : (k : ConstraintCase) (is : IsConstraintCase xs s k) → CaseBy xs s is.statement.item k
  case_by k is = record {
    enabled = is.statement.enabled;
    constraining = subst (IsConstraining xs s) (sym is.statement.is_keyword) is.constraining;
    term = is.term;
    says = is.statement.says;
    said = is.said;
    permission = is.permission;
  }

  is_case : (x : Item) (k : ConstraintCase) → Contains xs x → CaseBy xs s x k → IsConstraintCase xs s k
  is_case x k c by = record {
    keyword = x.keyword;
    constraining = by.constraining;
    term = by.term;
    statement = record { item = x; is_item = c; enabled = by.enabled; is_keyword = refl; says = by.says };
    said = by.said;
    permission = by.permission;
  }

  -- what stays of the constraints of all statements, sorted and without repeats
  pub all_given : (cs ys zs : List Constraint) → AreRecordsOf (CaseBy xs s) gives xs cs → IsPermutation cs ys → IsSorted constraint_cmp ys → IsFiltered (DiffersFromLast (eq_by_cmp constraint_cmp)) [] ys zs
      → Gives constraint_cmp (IsConstraintCase xs s) gives zs
  all_given cs ys zs are moved sorted kept =
      let l = sorted_list constraint_cmp constraint_total one_constraint cs ys zs moved sorted kept in
      record {
        rising = l.rising;
        each = λ k is.
            let r = are.each is.statement.item k is.statement.is_item (case_by k is) in
            (r.0, r.1, (l.members r.0).1 r.2);
        only = λ y c.
            let (x, k, cx, by, g) = are.only y ((l.members y).0 c) in
            (k, is_case x k cx by, g);
      }
