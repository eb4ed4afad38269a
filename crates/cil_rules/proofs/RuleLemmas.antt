-- The records of allow rules.
use Rattle.std.specs.Prelude.{Contains, Option, None}
use Rattle.std.proofs.Common.{◌≡◌, ℕ, ◌++◌, true, false, List, [], ◌∷◌, drop, get_or, length, map, refl, sym, ◌∙◌, ap, subst, inl, inr}
use Rattle.std.proofs.Math.Seq.{drop-append_seam}
use Rattle.std.proofs.lemmas.Bool.{true≢false}
use Rattle.std.proofs.lemmas.List.{append-nil, length-map, map-append}
use Rattle.std.proofs.lemmas.Option.{none-some, same_Some}
use Rattle.std.specs.Ordering.{nat_cmp, on}
use Rattle.cil_base.specs.Gives.{Gives}
use Rattle.cil_base.specs.Lists.{Lists, contains_cases, contains_here, contains_none}
use Rattle.cil_base.specs.MadeLists.{contains_map, from_map}
use Rattle.cil_syntax.specs.Forms.{rule_form}
use Rattle.cil_syntax.specs.declared.kind.Keyword.{Keyword}
use Rattle.cil_syntax.specs.declared.kind.Kind.{Kind}
use Rattle.cil_syntax.specs.declared.kind.Kind.TheVariants as kinds
use Rattle.cil_syntax.specs.declared.term.Word.{Word}
use Rattle.cil_syntax.specs.Terms.{Term, Leaf, Terms, nil, cons}
use Rattle.cil_macros.specs.Item.{Item, OptSet, is_enabled}
use Rattle.cil_syntax.specs.Scopes.{ScopedWord}
use Rattle.cil_conditions.specs.known.DeclaredKnown.{Known}
use Rattle.cil_classes.specs.declared.row.Class.{Class}
use Rattle.cil_rules.specs.declared.rule.NamedRule.{NamedRule}
use Rattle.cil_rules.specs.Kept.{branch_named, rule_named, set_named, target_named}
use Rattle.cil_rules.specs.Rule.{Rule}
use Rattle.cil_conditions.specs.declared.branch.Branch.{Branch}
use Rattle.cil_rules.specs.Records.{Branching, Case, CaseBy, HasNumber, HasTarget, IsCase, IsPut, IsRuleOf, IsTaken}
use Rattle.cil_conditions.specs.known.Known.{AreStanding, BeginWith, HasNumberFor, IsKnown, StandsForNothing, enabled_in, meant_by, meant_in, set_meant, value_in, wanted_with}
use Rattle.cil_conditions.specs.known.Members.{StandsFor}
use Rattle.cil_classes.specs.names.Resolves.{Wanted, Word as AWord, all_wanted_in, wanted_in}
use Rattle.cil_classes.specs.Given.{HasPair, of_class, of_map, of_name}
use Rattle.cil_base.specs.Records.{AreRecordsOf}
use Rattle.cil_classes.specs.declared.row.ClassId.{ClassId}
use Rattle.cil_classes.specs.Perms.{AreMasksOf, IsMaskOfClass}
use Rattle.cil_classes.proofs.PartLemmas.{one_class}
use Rattle.cil_classes.specs.names.Declarations.{Declared, Symbol}
use Rattle.cil_conditions.specs.known.Numbers.{AreApart}
use Rattle.cil_rules.specs.Behind.{AreBehind, rule_with}
use Rattle.cil_rules.proofs.BehindLemmas.{rising_map}
use Rattle.cil_rules.specs.declared.rule.Reach.{Reach}
use Rattle.cil_rules.specs.Order.{rule_cmp}
use Rattle.cil_macros.proofs.FormLemmas.{across, all_across, no_rule, rule_across}
use Rattle.cil_conditions.proofs.known_lemmas.StandingLemmas.{nothing_stands}
use Rattle.cil_rules.proofs.TargetLemmas.{IsReached, some_type, types_listed}

-- ---- the meanings of what a rule asks for

rule_wanted : (source : ScopedWord) (target class_permission : Term ScopedWord)
    → all_wanted_in (cons (Leaf source) (cons target (cons class_permission nil))) ≡ AWord source ∷ wanted_in target ++ (wanted_in class_permission ++ [])
unfolding all_wanted_in wanted_in
rule_wanted source target class_permission = refl

module _ (k : Known) (x : Item) (f : Word → ScopedWord) (args : Terms Word) (says : x.args ≡ all_across f args) (source : Word) (target class_permission : Term Word)
    (said : args ≡ cons (Leaf source) (cons target (cons class_permission nil))) (words : List (Option ℕ)) (are : words ≡ map (value_in k) (all_wanted_in x.args)) where
  abbrev by_meaning : Wanted → Option ℕ
  by_meaning = value_in k

  all_meant : words ≡ meant_in k (f source) ∷ meant_by k f target ++ meant_by k f class_permission
  all_meant =
      are
      ∙ ap (λ ts. map by_meaning (all_wanted_in ts)) (says ∙ ap (all_across f) said ∙ rule_across f source target class_permission)
      ∙ ap (map by_meaning) (rule_wanted (f source) (across f target) (across f class_permission))
      ∙ ap (λ ms. meant_in k (f source) ∷ ms) (map-append by_meaning (wanted_with f target) (wanted_with f class_permission ++ [])
      ∙ ap (λ ls. map by_meaning (wanted_with f target) ++ map by_meaning ls) (append-nil (wanted_with f class_permission)))

  -- the first is that of the source
  pub source_means : (r : Option ℕ) → r ≡ get_or words 0 None → r ≡ meant_in k (f source)
  source_means r first = first ∙ ap (λ ws. get_or ws 0 None) all_meant

  module _ (of_target : List (Option ℕ)) (behind_source : of_target ≡ drop 1 words) where
    target_there : of_target ≡ meant_by k f target ++ meant_by k f class_permission
    target_there = behind_source ∙ ap (drop 1) all_meant

    -- behind it are those of the target
    pub target_begins : BeginWith k f target of_target
    target_begins = record { more = meant_by k f class_permission; are = target_there }

    -- and behind these those of the class permission
    pub class_begins : (behind_both : List (Option ℕ)) → behind_both ≡ drop (length (wanted_with f target)) of_target → BeginWith k f class_permission behind_both
    class_begins behind_both behind_target = record {
      more = [];
      are =
          behind_target
          ∙ ap (drop (length (wanted_with f target))) target_there
          ∙ ap (λ n. drop n (meant_by k f target ++ meant_by k f class_permission)) (sym (length-map (wanted_with f target) by_meaning))
          ∙ drop-append_seam (meant_by k f target) (meant_by k f class_permission)
          ∙ sym (append-nil (meant_by k f class_permission));
    }

-- ---- the source

module _ (k : Known) (xs : List Item) (names : Kind → List (List ℕ)) (known : IsKnown k xs names) (sets : List (List ℕ)) (standing : AreStanding k xs names kinds.Type_ sets) (x : Item) (f : Word → ScopedWord)
    (args : Terms Word) (says : x.args ≡ all_across f args) (source : Word) (target class_permission : Term Word) (said : args ≡ cons (Leaf source) (cons target (cons class_permission nil)))
    (words : List (Option ℕ)) (are : words ≡ map (value_in k) (all_wanted_in x.args)) (r : Option ℕ) (first : r ≡ get_or words 0 None) where
  its_set : Lists nat_cmp (HasNumberFor xs (enabled_in k) kinds.Type_ (names kinds.Type_) (f source)) (set_meant sets r)
  its_set =
      subst (λ q. Lists nat_cmp (HasNumberFor xs (enabled_in k) kinds.Type_ (names kinds.Type_) (f source)) (set_meant sets q))
      (sym (source_means k x f args says source target class_permission said words are r first)) (standing (f source))

  -- the numbers of the types of the source
  pub source_listed : (kept : List ℕ) → kept ≡ set_meant sets r → Lists nat_cmp (HasNumber xs (enabled_in k) (names kinds.Type_) (f source)) kept
  source_listed kept e =
      subst (Lists nat_cmp (HasNumber xs (enabled_in k) (names kinds.Type_) (f source))) (sym e) (types_listed xs (enabled_in k) (names kinds.Type_) (f source) (set_meant sets r) its_set)

  pub source_lost : set_meant sets r ≡ [] → StandsForNothing xs (enabled_in k) kinds.Type_ (f source)
  source_lost empty = nothing_stands k xs names known kinds.Type_ refl (f source) (set_meant sets r) its_set empty

-- ---- the records of one statement

-- the class of a permission that is given is declared
pub pair_declared : (xs : List Item) (s : OptSet) (cp : Term ScopedWord) (c : Symbol) (p : List ℕ) → HasPair xs s cp c p → Declared xs s kinds.Class c
pair_declared xs s cp c p (of_class at word e d q stands value) = stands.declared
pair_declared xs s cp c p (of_map at word e inner m d r q stands value given pair) = pair_declared xs s inner d q pair
pair_declared xs s cp c p (of_name word inner n d q stands given pair) = pair_declared xs s inner d q pair

same_case : (a b : Case) → a.branch ≡ b.branch → a.source ≡ b.source → a.target ≡ b.target → a.class_permission ≡ b.class_permission → a.class_ ≡ b.class_ → a ≡ b
same_case a b o s t p c = λ i. record { branch = o i; source = s i; target = t i; class_permission = p i; class_ = c i }

module _ (xs : List Item) (k : Known) (keyword : Keyword) (how : Branching) (x : Item) where
  abbrev IsCaseOf : Case → Type 0
  IsCaseOf = CaseBy xs (enabled_in k) keyword how x

  pub not_taken : (IsTaken xs (enabled_in k) how x.branch → ⊥) → (c : Case) → IsCaseOf c → ⊥
  not_taken none c by = none (subst (IsTaken xs (enabled_in k) how) by.branch by.taken)

  pub other_keyword : (x.keyword ≡ keyword → ⊥) → (c : Case) → IsCaseOf c → ⊥
  other_keyword differ c by = differ by.is_keyword

  pub left_out : is_enabled (enabled_in k) x ≡ false → (c : Case) → IsCaseOf c → ⊥
  left_out out c by = true≢false (sym by.enabled ∙ out)

  module _ (f : Word → ScopedWord) (args : Terms Word) (says : x.args ≡ all_across f args) where
    pub other_terms : rule_form args ≡ None → (c : Case) → IsCaseOf c → ⊥
    other_terms none c by = none-some (c.source, c.target, c.class_permission) (sym (no_rule f args none) ∙ ap rule_form (sym says ∙ by.says))

    module _ (source : Word) (target class_permission : Term Word) (said : args ≡ cons (Leaf source) (cons target (cons class_permission nil))) where
      is_rule : x.args ≡ cons (Leaf (f source)) (cons (across f target) (cons (across f class_permission) nil))
      is_rule = says ∙ ap (all_across f) said ∙ rule_across f source target class_permission

      is_parts : (c : Case) → IsCaseOf c → ◌≡◌ {A = ScopedWord × Term ScopedWord × Term ScopedWord} (c.source, c.target, c.class_permission) (f source, across f target, across f class_permission)
      is_parts c by = same_Some (c.source, c.target, c.class_permission) (f source, across f target, across f class_permission) (ap rule_form (sym by.says ∙ is_rule))

      source_of : (c : Case) → IsCaseOf c → c.source ≡ f source
      source_of c by = ap (λ r. r.0) (is_parts c by)

      target_of : (c : Case) → IsCaseOf c → c.target ≡ across f target
      target_of c by = ap (λ r. r.1) (is_parts c by)

      class_of : (c : Case) → IsCaseOf c → c.class_permission ≡ across f class_permission
      class_of c by = ap (λ r. r.2) (is_parts c by)

      pub without_source : StandsForNothing xs (enabled_in k) kinds.Type_ (f source) → (c : Case) → IsCaseOf c → ⊥
      without_source none c by = none by.source.0 (subst (λ w. StandsFor xs (enabled_in k) kinds.Type_ w by.source.0) (source_of c by) by.source.1)

      pub without_target : (HasTarget xs (enabled_in k) (across f target) → ⊥) → (c : Case) → IsCaseOf c → ⊥
      without_target none c by = none (subst (HasTarget xs (enabled_in k)) (target_of c by) by.target)

      module _ (names : Kind → List (List ℕ)) (known : IsKnown k xs names) (apart : AreApart k.lookup.names.now (enabled_in k) k.numbers.now) (branches : List Branch) (place branch : ℕ)
          (taken : IsTaken xs (enabled_in k) how x.branch) (put : IsPut xs (enabled_in k) how x.branch (branch_named branches branch)) (types sets : List (List ℕ)) (classes : List Class) (number : ℕ)
          (listed : Lists nat_cmp (HasNumber xs (enabled_in k) types (f source)) (set_named sets number)) (some : set_named sets number ≡ [] → ⊥) (reach : Reach)
          (is_reached : IsReached xs (enabled_in k) types (across f target) (target_named sets reach)) (masks : List (ClassId × ℕ))
          (masked : AreMasksOf xs (enabled_in k) classes (across f class_permission) masks) where
        abbrev case_for : Symbol → Case
        case_for c = record { branch = x.branch; source = f source; target = across f target; class_permission = across f class_permission; class_ = c }

        abbrev with_mask : ClassId × ℕ → NamedRule
        with_mask m = rule_with place branch number reach m

        case_is : (c : Case) → IsCaseOf c → c ≡ case_for c.class_
        case_is c by = same_case c (case_for c.class_) by.branch (source_of c by) (target_of c by) (class_of c by) refl

        pair_of : (c : Case) (by : IsCaseOf c) → HasPair xs (enabled_in k) (across f class_permission) c.class_ by.permission.0
        pair_of c by = subst (λ t. HasPair xs (enabled_in k) t c.class_ by.permission.0) (class_of c by) by.permission.1

        is_record : (m : ClassId × ℕ) (mask : IsMaskOfClass xs (enabled_in k) classes (across f class_permission) m)
            → IsRuleOf xs (enabled_in k) types classes how (case_for mask.symbol) (rule_named branches sets (with_mask m))
        is_record m mask = record {
          branch = put;
          source = listed;
          target = is_reached.1;
          row = mask.row;
          is_row = mask.is_row;
          named = mask.named;
          mask = λ bit. (
            (λ set. let b = (mask.bits bit).0 set in record { permission = b.0; is_permission = b.1; gives = b.2 }),
            (λ b. (mask.bits bit).1 (b.permission, b.is_permission, b.gives)),
          );
        }

        -- each case has the record of the mask of its class
        record_for : (c : Case) → IsCaseOf c → (y : Rule) × IsRuleOf xs (enabled_in k) types classes how c y × Contains (map (rule_named branches sets) (map with_mask masks)) y
        record_for c by =
            let pair = pair_of c by in
            let among = masked.all c.class_ by.permission.0 pair in
            let mask = masked.each among.mask among.there in
            let row : among.row ≡ mask.row = same_Some among.row mask.row (sym among.is_row ∙ mask.is_row) in
            let one : mask.symbol ≡ c.class_ = one_class k xs names known apart mask.symbol c.class_ (pair_declared xs (enabled_in k) (across f class_permission) mask.symbol mask.some.0 mask.some.1)
            (pair_declared xs (enabled_in k) (across f class_permission) c.class_ by.permission.0 pair) (sym mask.named ∙ ap (λ (r : Class). r.name) (sym row) ∙ among.named) in (
              rule_named branches sets (with_mask among.mask),
              subst (λ d. IsRuleOf xs (enabled_in k) types classes how d (rule_named branches sets (with_mask among.mask))) (ap case_for one ∙ sym (case_is c by)) (is_record among.mask mask),
              contains_map (rule_named branches sets) (map with_mask masks) (with_mask among.mask) (contains_map with_mask masks among.mask among.there),
            )

        module _ (is : x.keyword ≡ keyword) (enabled : is_enabled (enabled_in k) x ≡ true) where
          a_case : (m : ClassId × ℕ) (mask : IsMaskOfClass xs (enabled_in k) classes (across f class_permission) m) → IsCaseOf (case_for mask.symbol)
          a_case m mask = record {
            enabled = enabled;
            is_keyword = is;
            branch = refl;
            taken = taken;
            says = is_rule;
            source = some_type xs (enabled_in k) types (f source) (set_named sets number) listed some;
            target = is_reached.0;
            permission = mask.some;
          }

          -- each record is that of the class of its mask
          case_of : (y : Rule) → Contains (map (rule_named branches sets) (map with_mask masks)) y
              → (z : Item) × (c : Case) × Contains (x ∷ []) z × CaseBy xs (enabled_in k) keyword how z c × IsRuleOf xs (enabled_in k) types classes how c y
          case_of y c =
              let (r, cr, of_rule) = from_map (rule_named branches sets) (map with_mask masks) y c in
              let (m, cm, of_mask) = from_map with_mask masks r cr in
              let mask = masked.each m cm in
              (x, case_for mask.symbol, contains_here x [], a_case m mask, subst (IsRuleOf xs (enabled_in k) types classes how (case_for mask.symbol)) (ap (rule_named branches sets) of_mask ∙ of_rule) (is_record m mask))

          -- a rule for each mask is a record for each case
          pub some_rules : (old new : List NamedRule) → new ≡ old ++ map with_mask masks
              → AreBehind (CaseBy xs (enabled_in k) keyword how) (IsRuleOf xs (enabled_in k) types classes how) (rule_named branches sets) x place old new
          some_rules old new push = record {
            rules = map with_mask masks;
            behind = push;
            are = record {
              each = λ z c cz by. elim (contains_cases z x [] cz) [
                | inl e ↦ record_for c (subst (λ w. CaseBy xs (enabled_in k) keyword how w c) (sym e) by)
                | inr n ↦ absurd (contains_none z n)
              ];
              only = case_of;
            };
            there = λ r c. let (m, cm, e) = from_map with_mask masks r c in ap (λ (z : NamedRule). z.instance) (sym e);
            rising =
                rising_map (on (λ (m : ClassId × ℕ). m.0.number) nat_cmp) (on (λ (r : NamedRule). r.class) nat_cmp) with_mask (λ a b less. less) masks masked.rising;
          }

-- ---- the records of all statements

module _ (xs : List Item) (s : OptSet) (keyword : Keyword) (how : Branching) (types : List (List ℕ)) (classes : List Class) (raw : List Rule)
    (are : AreRecordsOf (CaseBy xs s keyword how) (IsRuleOf xs s types classes how) xs raw) where
  -- a list of them in their order has the rule of each case
  pub rules_listed : (zs : List Rule) → Lists rule_cmp (Contains raw) zs → Gives rule_cmp (IsCase xs s keyword how) (IsRuleOf xs s types classes how) zs
  rules_listed zs list = record {
    rising = list.rising;
    each = λ k is. let r = are.each is.item k is.is_item is.by in (r.0, r.1, (list.members r.0).1 r.2);
    only = λ y c. let o = are.only y ((list.members y).0 c) in (o.1, record { item = o.0; is_item = o.2; by = o.3 }, o.4);
  }
