-- What rules cover by numbers is what their statements cover, and the least by numbers is the least by names.
use Rattle.std.specs.Prelude.{Contains, Some, slice_get}
use Rattle.std.specs.Cmp.Lexicographic.{slice_cmp}
use Rattle.std.specs.Ordering.{nat_cmp}
use Rattle.std.proofs.Common.{◌≡◌, ℕ, List, [], ◌∷◌, refl, sym, ◌∙◌, ap, subst, inl, inr}
use Rattle.std.proofs.lemmas.Option.{same_Some}
use Rattle.cil_base.specs.Lists.{contains_cases, contains_here, contains_none, text_cmp}
use Rattle.cil_base.specs.Places.{get_contains}
use Rattle.cil_base.specs.Records.{AreRecordsOf}
use Rattle.cil_syntax.specs.declared.kind.Keyword.{Keyword}
use Rattle.cil_syntax.specs.declared.kind.Keyword.TheVariants as keywords
use Rattle.cil_syntax.specs.declared.kind.Kind.{Kind}
use Rattle.cil_syntax.specs.declared.kind.Kind.TheVariants as kinds
use Rattle.cil_syntax.specs.Scopes.{ScopedWord}
use Rattle.cil_syntax.specs.Terms.{Term, Leaf, Name, Form}
use Rattle.cil_macros.specs.Item.{Item, OptSet}
use Rattle.cil_index.specs.known.DeclaredKnown.{Known}
use Rattle.cil_index.specs.names.Declarations.{Declared, Symbol, name_of}
use Rattle.cil_index.specs.known.Known.{IsKnown, IsNumbered, enabled_in}
use Rattle.cil_index.specs.known.Members.{StandsFor}
use Rattle.cil_index.specs.known.Numbers.{AreApart}
use Rattle.cil_index.specs.classes.ClassRows.{AreClasses}
use Rattle.cil_index.specs.classes.Given.{HasPair}
use Rattle.cil_index.specs.classes.Class.{Class}
use Rattle.cil_index.proofs.classes_lemmas.PartLemmas.{one_row}
use Rattle.cil_index.specs.rules.CoveredBy.{IsCoveredBy, IsTarget}
use Rattle.cil_index.specs.rules.Covers.{Reaches}
use Rattle.cil_index.specs.rules.Records.{ignored, Case, CaseBy, HasNumber, HasTarget, IsRuleOf, IsTargetOf}
use Rattle.cil_index.specs.rules.Rule.{Rule, Target, Types, Itself}
use Rattle.cil_index.proofs.rules_lemmas.RuleLemmas.{pair_declared}
use Rattle.cil_neverallow.specs.declared.overlap.Overlap.{Overlap}
use Rattle.cil_neverallow.specs.NeverFaults.{AreBoth, IsLeast, Quadruple, names_of}
use Rattle.cil_neverallow.specs.Numbered.{AreNumbersOf}
use Rattle.cil_neverallow.specs.Overlaps.{HaveIt, IsLeastOf, IsOverlap, overlap_cmp}
use Rattle.cil_neverallow.proofs.OrderLemmas.{names_cmp, quadruples_cmp}
use Rattle.cil_neverallow.proofs.SectionLemmas.{number_of, one_number, one_symbol, permission_in, row_numbered, row_of}

module _ (k : Known) (xs : List Item) (names : Kind → List (List ℕ)) (known : IsKnown k xs names) (apart : AreApart k.lookup.names.now (enabled_in k) k.numbers.now) (rows : List Class)
    (classes : AreClasses xs (enabled_in k) (names kinds.Class) rows) where
  abbrev s : OptSet
  s = enabled_in k

  abbrev types : List (List ℕ)
  types = names kinds.Type_

  -- ---- types

  one_type : (t u : Symbol) (n : ℕ) → Declared xs s kinds.Type_ t → Declared xs s kinds.Type_ u → IsNumbered types t n → IsNumbered types u n → t ≡ u
  one_type t u n d e x y = one_symbol k xs names known kinds.Type_ refl apart t u d e (same_Some (name_of t) (name_of u) (sym x ∙ y))

  stands_there : (w : ScopedWord) (n : ℕ) (t : Symbol) → Declared xs s kinds.Type_ t → IsNumbered types t n → HasNumber xs s types w n → StandsFor xs s kinds.Type_ w t
  stands_there w n t d x has = subst (StandsFor xs s kinds.Type_ w) (one_type has.kind t n has.stands.declared d has.numbered x) has.stands

  module _ (i j : ℕ) (a b : Symbol) (da : Declared xs s kinds.Type_ a) (db : Declared xs s kinds.Type_ b) (na : IsNumbered types a i) (nb : IsNumbered types b j) where
    target_there : (term : Term ScopedWord) (target : Target) → IsTargetOf xs s types term target → Reaches target i j → IsTarget xs s a b term
    target_there (Leaf w) (Types ns) is r = stands_there w j b db nb ((is.members j).0 r)
    target_there (Leaf w) Itself is r = absurd is
    target_there (Name place name) target is r = absurd is
    target_there (Form place op parts) target is r = (is.0, one_type a b j da db (subst (IsNumbered types a) (subst (λ z. Reaches z i j) is.1 r) na) nb)

    target_back : (term : Term ScopedWord) (target : Target) → IsTargetOf xs s types term target → IsTarget xs s a b term → Reaches target i j
    target_back (Leaf w) (Types ns) is st = (is.members j).1 (record { kind = b; stands = st; numbered = nb })
    target_back (Leaf w) Itself is st = absurd is
    target_back (Name place name) target is st = absurd is
    target_back (Form place op parts) target is st =
        subst (λ z. Reaches z i j) (sym is.1) (one_number k xs names known kinds.Type_ refl i j a na (subst (λ z. IsNumbered types z j) (sym st.1) nb))

  has_target : (a b : Symbol) (term : Term ScopedWord) → IsTarget xs s a b term → HasTarget xs s term
  has_target a b (Leaf w) st = (b, st)
  has_target a b (Name place name) st = absurd st
  has_target a b (Form place op parts) st = st.0

  -- the symbol of a target
  target_symbol : (term : Term ScopedWord) (target : Target) (i j : ℕ) (a : Symbol) → Declared xs s kinds.Type_ a → IsNumbered types a i → IsTargetOf xs s types term target → Reaches target i j
      → (b : Symbol) × Declared xs s kinds.Type_ b × IsNumbered types b j
  target_symbol (Leaf w) (Types ns) i j a d x is r = let has = (is.members j).0 r in (has.kind, has.stands.declared, has.numbered)
  target_symbol (Leaf w) Itself i j a d x is r = absurd is
  target_symbol (Name place name) target i j a d x is r = absurd is
  target_symbol (Form place op parts) target i j a d x is r = (a, d, subst (IsNumbered types a) (subst (λ z. Reaches z i j) is.1 r) x)

  target_declared : (term : Term ScopedWord) {t u : Symbol} → Declared xs s kinds.Type_ t → IsTarget xs s t u term → Declared xs s kinds.Type_ u
  target_declared (Leaf w) d st = st.declared
  target_declared (Name place name) d st = absurd st
  target_declared (Form place op parts) d st = subst (Declared xs s kinds.Type_) st.1 d

  -- ---- one statement

  abbrev AreRulesOf : Keyword → Item → List Rule → Type 0
  AreRulesOf keyword x rules = AreRecordsOf (CaseBy xs s keyword ignored) (IsRuleOf xs s types rows ignored) (x ∷ []) rules

  -- a quadruple of declared symbols, with these numbers
  record IsNamed (o : Overlap) (q : Quadruple) : Type 0 where
    numbers : AreNumbersOf types rows o q
    a_source : Declared xs s kinds.Type_ q.source
    a_target : Declared xs s kinds.Type_ q.target
    a_class : Declared xs s kinds.Class q.class_

  -- a rule of the statement, and the case of which it is
  record IsRuleBy (keyword : Keyword) (x : Item) (r : Rule) : Type 0 where
    case_ : Case
    by : CaseBy xs s keyword ignored x case_
    gives : IsRuleOf xs s types rows ignored case_ r

  rule_by : (keyword : Keyword) (x : Item) (rules : List Rule) → AreRulesOf keyword x rules → (r : Rule) → Contains rules r → IsRuleBy keyword x r
  rule_by keyword x rules are r c =
      let (y, h, cy, by, gives) = are.only r c in
      elim (contains_cases y x [] cy) [
        | inl e ↦ record { case_ = h; by = subst (λ z. CaseBy xs s keyword ignored z h) (sym e) by; gives = gives }
        | inr n ↦ absurd (contains_none y n)
      ]

  -- the class of a case is declared
  case_class : (keyword : Keyword) (x : Item) (r : Rule) (is : IsRuleBy keyword x r) → Declared xs s kinds.Class is.case_.class_
  case_class keyword x r is = pair_declared xs s is.case_.class_permission is.case_.class_ is.by.permission.0 is.by.permission.1

  abbrev pub case_for : (keyword : Keyword) (x : Item) (q : Quadruple) → IsCoveredBy xs s keyword x q.source q.target q.class_ q.permission → Case
  case_for keyword x q is = record { branch = x.branch; source = is.source_word; target = is.target_term; class_permission = is.class_permission; class_ = q.class_ }

  -- a statement that covers something has a case
  pub case_by : (keyword : Keyword) (x : Item) (q : Quadruple) (is : IsCoveredBy xs s keyword x q.source q.target q.class_ q.permission) → CaseBy xs s keyword ignored x (case_for keyword x q is)
  case_by keyword x q is = record {
    enabled = is.enabled;
    is_keyword = is.is_keyword;
    branch = refl;
    taken = tt;
    says = is.says;
    source = (q.source, is.has_source);
    target = has_target q.source q.target is.target_term is.has_target;
    permission = (q.permission, is.permits);
  }

  module _ (keyword : Keyword) (x : Item) (is_item : Contains xs x) (rules : List Rule) (are : AreRulesOf keyword x rules) where
    -- what a rule covers by numbers is a quadruple of declared symbols
    named_by : (o : Overlap) → HaveIt rules o → (q : Quadruple) × IsNamed o q
    named_by o have =
        let is = rule_by keyword x rules are have.rule have.is_rule in
        let g = is.gives in
        let source = (g.source.members o.source).0 have.holds.has_source in
        let da = source.stands.declared in
        let target = target_symbol is.case_.target have.rule.target o.source o.target source.kind da source.numbered g.target have.holds.has_target in
        let bit = (g.mask o.bit).0 have.holds.permits in (
          record { source = source.kind; target = target.0; class_ = is.case_.class_; permission = bit.permission },
          record {
            numbers = record {
              source_is = source.numbered;
              target_is = target.2;
              row = g.row;
              is_row = subst (λ n. slice_get rows n ≡ Some g.row) have.holds.of_class g.is_row;
              named = g.named;
              permission_is = bit.is_permission;
            };
            a_source = da;
            a_target = target.1;
            a_class = case_class keyword x have.rule is;
          },
        )

    -- what the rules cover, the statement covers
    covered : (o : Overlap) (q : Quadruple) → IsNamed o q → HaveIt rules o → IsCoveredBy xs s keyword x q.source q.target q.class_ q.permission
    covered o q named have =
        let is = rule_by keyword x rules are have.rule have.is_rule in
        let g = is.gives in
        let n = named.numbers in
        let row : g.row ≡ n.row = same_Some g.row n.row (sym g.is_row ∙ ap (slice_get rows) have.holds.of_class ∙ n.is_row) in
        let class_ : is.case_.class_ ≡ q.class_ =
        one_symbol k xs names known kinds.Class refl apart is.case_.class_ q.class_ (case_class keyword x have.rule is) named.a_class (sym g.named ∙ ap (λ (z : Class). z.name) row ∙ n.named) in
        let bit = (g.mask o.bit).0 have.holds.permits in
        let permission : bit.permission ≡ q.permission = same_Some bit.permission q.permission (sym bit.is_permission ∙ ap (λ (z : Class). slice_get z.permissions o.bit) row ∙ n.permission_is) in
        record {
          is_item = is_item;
          enabled = is.by.enabled;
          is_keyword = is.by.is_keyword;
          source_word = is.case_.source;
          target_term = is.case_.target;
          class_permission = is.case_.class_permission;
          says = is.by.says;
          has_source = stands_there is.case_.source o.source q.source named.a_source n.source_is ((g.source.members o.source).0 have.holds.has_source);
          has_target =
              target_there o.source o.target q.source q.target named.a_source named.a_target n.source_is n.target_is is.case_.target have.rule.target g.target have.holds.has_target;
          permits =
              subst (HasPair xs s is.case_.class_permission q.class_) permission (subst (λ z. HasPair xs s is.case_.class_permission z bit.permission) class_ bit.gives);
        }

    -- what the statement covers, its rules cover
    have_it : (o : Overlap) (q : Quadruple) → IsNamed o q → IsCoveredBy xs s keyword x q.source q.target q.class_ q.permission → HaveIt rules o
    have_it o q named is =
        let found = are.each x (case_for keyword x q is) (contains_here x []) (case_by keyword x q is) in
        let r = found.0 in
        let g = found.1 in
        let n = named.numbers in
        let number : r.class ≡ o.class = one_row k xs names known rows classes r.class o.class g.row n.row g.is_row n.is_row (g.named ∙ sym n.named) in
        let row : g.row ≡ n.row = same_Some g.row n.row (sym g.is_row ∙ ap (slice_get rows) number ∙ n.is_row) in
        record {
          rule = r;
          is_rule = found.2;
          holds = record {
            has_source = (g.source.members o.source).1 (record { kind = q.source; stands = is.has_source; numbered = n.source_is });
            has_target = target_back o.source o.target q.source q.target named.a_source named.a_target n.source_is n.target_is is.target_term r.target g.target is.has_target;
            of_class = number;
            permits =
                (g.mask o.bit).1
                (record { permission = q.permission; is_permission = ap (λ (z : Class). slice_get z.permissions o.bit) row ∙ n.permission_is; gives = is.permits });
          };
        }

  -- ---- two statements

  module _ (x y : Item) (is_x : Contains xs x) (is_y : Contains xs y) (rules others : List Rule) (are_x : AreRulesOf keywords.NeverAllow x rules) (are_y : AreRulesOf keywords.Allow y others) where
    -- what both have by numbers, both statements cover
    both_named : (o : Overlap) → IsOverlap rules others o → (q : Quadruple) × IsNamed o q × AreBoth xs s x y q
    both_named o both =
        let (q, named) = named_by keywords.NeverAllow x is_x rules are_x o both.first in
        (q, named, record { forbidden = covered keywords.NeverAllow x is_x rules are_x o q named both.first; allowed = covered keywords.Allow y is_y others are_y o q named both.second })

    -- what both statements cover has numbers, and both have it
    both_numbered : (q : Quadruple) → AreBoth xs s x y q → (o : Overlap) × IsNamed o q × IsOverlap rules others o
    both_numbered q both =
        let f = both.forbidden in
        let da = f.has_source.declared in
        let db = target_declared f.target_term da f.has_target in
        let dc = pair_declared xs s f.class_permission q.class_ q.permission f.permits in
        let i = number_of k xs names known kinds.Type_ refl q.source da in
        let j = number_of k xs names known kinds.Type_ refl q.target db in
        let (n, row, is_row, row_named) = row_of k xs names known rows classes q.class_ dc in
        let bit = permission_in k xs names known rows classes n row f.class_permission q.class_ q.permission is_row row_named dc f.permits in
        let o : Overlap = record { source = i.0; target = j.0; class = n; bit = bit.0 } in
        let named : IsNamed o q = record {
          numbers = record { source_is = i.1; target_is = j.1; row = row; is_row = is_row; named = row_named; permission_is = bit.1 };
          a_source = da;
          a_target = db;
          a_class = dc;
        } in
        (o, named, record { first = have_it keywords.NeverAllow x is_x rules are_x o q named both.forbidden; second = have_it keywords.Allow y is_y others are_y o q named both.allowed })

  -- quadruples compare as their numbers
  named_cmp : (o p : Overlap) (q r : Quadruple) → IsNamed o q → IsNamed p r → slice_cmp text_cmp (names_of q) (names_of r) ≡ overlap_cmp o p
  named_cmp o p q r a b =
      let n = a.numbers in
      let m = b.numbers in
      let up = (known.numbered.lists kinds.Type_ refl).rising in
      quadruples_cmp q r o p (names_cmp types o.source p.source (name_of q.source) (name_of r.source) up n.source_is m.source_is)
      (names_cmp types o.target p.target (name_of q.target) (name_of r.target) up n.target_is m.target_is)
      (names_cmp (names kinds.Class) o.class p.class (name_of q.class_) (name_of r.class_) (known.numbered.lists kinds.Class refl).rising
      (row_numbered k xs names known rows classes o.class n.row q.class_ n.is_row n.named) (row_numbered k xs names known rows classes p.class m.row r.class_ m.is_row m.named))
      (λ e. one_class_cmp e)
    where
      one_class_cmp : o.class ≡ p.class → text_cmp q.permission r.permission ≡ nat_cmp o.bit p.bit
      one_class_cmp e =
          let n = a.numbers in
          let m = b.numbers in
          let row : n.row ≡ m.row = same_Some n.row m.row (sym n.is_row ∙ ap (slice_get rows) e ∙ m.is_row) in
          let listed = classes.each m.row r.class_ (get_contains rows p.class m.row m.is_row) b.a_class m.named in
          names_cmp m.row.permissions o.bit p.bit q.permission r.permission listed.rising (subst (λ (z : Class). slice_get z.permissions o.bit ≡ Some q.permission) row n.permission_is) m.permission_is

  module _ (x y : Item) (is_x : Contains xs x) (is_y : Contains xs y) (rules others : List Rule) (are_x : AreRulesOf keywords.NeverAllow x rules) (are_y : AreRulesOf keywords.Allow y others) where
    -- the least by numbers is the least by names
    pub least_named : (o : Overlap) → IsLeastOf (IsOverlap rules others) o → (q : Quadruple) × AreNumbersOf types rows o q × IsLeast xs s x y q
    least_named o least =
        let (q, named, both) = both_named x y is_x is_y rules others are_x are_y o least.is in (
          q,
          named.numbers,
          record {
            both = both;
            least = λ r is less. let (p, at, overlap) = both_numbered x y is_x is_y rules others are_x are_y r is in least.least p overlap (sym (named_cmp p o r q at named) ∙ less);
          },
        )

    -- and the least by names is the least by numbers
    pub least_numbered : (q : Quadruple) → IsLeast xs s x y q → (o : Overlap) × AreNumbersOf types rows o q × IsLeastOf (IsOverlap rules others) o
    least_numbered q least =
        let (o, named, overlap) = both_numbered x y is_x is_y rules others are_x are_y q least.both in (
          o,
          named.numbers,
          record {
            is = overlap;
            least = λ p is less. let (r, at, both) = both_named x y is_x is_y rules others are_x are_y p is in least.least r both (named_cmp p o r q at named ∙ less);
          },
        )
