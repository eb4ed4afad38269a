-- The faults of a policy for its neverallow statements are those of its statements by numbers.
use Rattle.std.specs.Prelude.{Contains, Some, decimal, get_or, slice_get}
use Rattle.std.proofs.Common.{◌≡◌, ℕ, ◌<◌, List, [], ◌∷◌, ◌++◌, length, sym, ◌∙◌, ap, subst}
use Rattle.std.proofs.lemmas.Option.{same_Some}
use Rattle.cil_base.specs.Lists.{contains_none}
use Rattle.cil_base.specs.Places.{get_at, get_contains, get_so}
use Rattle.cil_faults.specs.declared.code.FaultCode.TheVariants as causes
use Rattle.cil_faults.specs.declared.fault.Fault.{Fault}
use Rattle.cil_faults.specs.declared.spot.Spot.{Spot}
use Rattle.cil_faults.specs.Reported.{fault_at}
use Rattle.cil_syntax.specs.declared.kind.Keyword.{Keyword}
use Rattle.cil_syntax.specs.declared.kind.Keyword.TheVariants as keywords
use Rattle.cil_syntax.specs.declared.kind.Kind.{Kind}
use Rattle.cil_syntax.specs.declared.kind.Kind.TheVariants as kinds
use Rattle.cil_macros.specs.Item.{Item}
use Rattle.cil_index.specs.known.DeclaredKnown.{Known}
use Rattle.cil_index.specs.names.Declarations.{name_of}
use Rattle.cil_index.specs.known.Known.{IsKnown, enabled_in}
use Rattle.cil_index.specs.known.Numbers.{AreApart}
use Rattle.cil_index.specs.classes.ClassRows.{AreClasses}
use Rattle.cil_index.specs.rules.CoveredBy.{IsCoveredBy}
use Rattle.cil_index.specs.rules.Records.{ignored, CaseBy, IsRuleOf}
use Rattle.cil_neverallow.specs.declared.overlap.Overlap.{Overlap}
use Rattle.cil_neverallow.specs.declared.forbidden.View.{View}
use Rattle.cil_neverallow.specs.NeverFaults.{IsLeast, NeverFault, Quadruple, told, violated}
use Rattle.cil_neverallow.specs.Numbered.{AreNumbersOf}
use Rattle.cil_neverallow.specs.Stated.{AreStatements, Stated}
use Rattle.cil_neverallow.specs.Violations.{IsViolation, name_of_row, permission_of_row, rules_by, told_by}
use Rattle.cil_neverallow.proofs.NeverLemmas.{case_by, case_for, least_named, least_numbered}

-- the words of a fault are the names of its numbers
pub told_same : (v : View) (at : Spot) (types : List (List ℕ)) → types ≡ v.types.now → (o : Overlap) (q : Quadruple) → AreNumbersOf types v.classes.now o q → told_by v at o ≡ told at q
told_same v at types same o q n =
    let source : get_or v.types.now o.source [] ≡ name_of q.source = get_so v.types.now o.source (name_of q.source) [] (subst (λ l. slice_get l o.source ≡ Some (name_of q.source)) same n.source_is) in
    let target : get_or v.types.now o.target [] ≡ name_of q.target = get_so v.types.now o.target (name_of q.target) [] (subst (λ l. slice_get l o.target ≡ Some (name_of q.target)) same n.target_is) in
    let class_ : name_of_row (slice_get v.classes.now o.class) ≡ name_of q.class_ = ap name_of_row n.is_row ∙ n.named in
    let permission : permission_of_row (slice_get v.classes.now o.class) o.bit ≡ q.permission =
    ap (λ r. permission_of_row r o.bit) n.is_row ∙ get_so n.row.permissions o.bit q.permission [] n.permission_is in
    λ i. decimal at.«module» ++ (58 ∷ decimal at.at) ++ (58 ∷ source i) ++ (58 ∷ target i) ++ (58 ∷ class_ i) ++ (58 ∷ permission i)

module _ (k : Known) (xs : List Item) (names : Kind → List (List ℕ)) (known : IsKnown k xs names) (apart : AreApart k.lookup.names.now (enabled_in k) k.numbers.now) (v : View)
    (same : names kinds.Type_ ≡ v.types.now) (classes : AreClasses xs (enabled_in k) (names kinds.Class) v.classes.now)
    (at : ℕ → Item) (there : (place : ℕ) → place < length xs → slice_get xs place ≡ Some (at place)) where
  abbrev AreThose : Keyword → List Stated → Type 0
  AreThose keyword sts = AreStatements (CaseBy xs (enabled_in k) keyword ignored) (IsRuleOf xs (enabled_in k) (names kinds.Type_) v.classes.now ignored) v.sets.now at (length xs) sts

  -- a statement that covers something is at a place, among the statements
  statement_of : (keyword : Keyword) (sts : List Stated) → AreThose keyword sts → (x : Item) (q : Quadruple) → IsCoveredBy xs (enabled_in k) keyword x q.source q.target q.class_ q.permission
      → (st : Stated) × Contains sts st × (at st.place ≡ x)
  statement_of keyword sts are x q covers =
      let (place, within, got) = get_at xs x covers.is_item in
      let is : at place ≡ x = same_Some (at place) x (sym (there place within) ∙ got) in
      let by = case_by k xs names known apart v.classes.now classes keyword x q covers in
      let c = case_for k xs names known apart v.classes.now classes keyword x q covers in
      let (st, among, e) = are.all place c within (subst (λ z. CaseBy xs (enabled_in k) keyword ignored z c) (sym is) by) in
      (st, among, ap at e ∙ is)

  -- without neverallow statements there is no fault
  pub none_forbidden : (f : Fault) → AreThose keywords.NeverAllow [] → NeverFault xs (enabled_in k) f → ⊥
  none_forbidden f are (violated n a q least) = let (st, among, e) = statement_of keywords.NeverAllow [] are n q least.both.forbidden in contains_none st among

  module _ (forbidden allowed : List Stated) (inside : (st : Stated) → Contains forbidden st → st.place < length xs) (within : (st : Stated) → Contains allowed st → st.place < length xs)
      (are : AreThose keywords.NeverAllow forbidden) (are_allowed : AreThose keywords.Allow allowed) where
    item_in : (st : Stated) → st.place < length xs → Contains xs (at st.place)
    item_in st h = get_contains xs st.place (at st.place) (there st.place h)

    pub fault_there : (f : Fault) → IsViolation at v forbidden allowed f → NeverFault xs (enabled_in k) f
    fault_there f w =
        let n = w.statement in
        let a = w.meet.other in
        let p = w.meet.meet in
        let (q, numbers, least) = least_named k xs names known apart v.classes.now classes (at n.place) (at a.place) (item_in n (inside n w.is_statement)) (item_in a (within a w.meet.is_other))
        (rules_by v n) (rules_by v a) (are.each n w.is_statement) (are_allowed.each a w.meet.is_other) p.overlap p.least in
        subst (NeverFault xs (enabled_in k)) (sym (p.is ∙ ap (fault_at causes.NeverAllow (at n.place).at (at n.place).space) (told_same v (at a.place).at (names kinds.Type_) same p.overlap q numbers)))
        (violated (at n.place) (at a.place) q least)

    pub fault_back : (f : Fault) → NeverFault xs (enabled_in k) f → IsViolation at v forbidden allowed f
    fault_back _ (violated x y q least) =
        let (n, n_among, n_is) = statement_of keywords.NeverAllow forbidden are x q least.both.forbidden in
        let (a, a_among, a_is) = statement_of keywords.Allow allowed are_allowed y q least.both.allowed in
        let here : IsLeast xs (enabled_in k) (at n.place) (at a.place) q = subst (λ z. IsLeast xs (enabled_in k) z (at a.place) q) (sym n_is) (subst (λ z. IsLeast xs (enabled_in k) x z q) (sym a_is) least) in
        let (o, numbers, by_numbers) = least_numbered k xs names known apart v.classes.now classes (at n.place) (at a.place) (item_in n (inside n n_among)) (item_in a (within a a_among))
        (rules_by v n) (rules_by v a) (are.each n n_among) (are_allowed.each a a_among) q here in
        record {
          statement = n;
          is_statement = n_among;
          meet = record {
            other = a;
            is_other = a_among;
            meet = record {
              overlap = o;
              least = by_numbers;
              is =
                  ap (λ (z : Item). fault_at causes.NeverAllow z.at z.space (told y.at q)) (sym n_is)
                  ∙ ap (λ (z : Item). fault_at causes.NeverAllow (at n.place).at (at n.place).space (told z.at q)) (sym a_is)
                  ∙ ap (fault_at causes.NeverAllow (at n.place).at (at n.place).space) (sym (told_same v (at a.place).at (names kinds.Type_) same o q numbers));
            };
          };
        }
