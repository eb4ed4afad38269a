-- The rules of some statements, with those of one statement more.
use Rattle.std.proofs.Common.{◌≡◌, ◌⊎◌, ℕ, ◌+◌, ◌<◌, List, [], ◌∷◌, ◌++◌, length, map, sym, ◌∙◌, ap, subst, inl, inr, append-nil, arith}
use Rattle.std.specs.Prelude.{Contains}
use Rattle.std.specs.declared.cmp.Ordering.{Ordering}
use Rattle.std.specs.declared.cmp.Ordering.TheVariants.{Less}
use Rattle.std.specs.List.Sorted.{IsStrictlySortedBy}
use Rattle.std.specs.Ordering.{nat_cmp, on, ordering_then}
use Rattle.std.proofs.lemmas.List.Elements.{Contains-append_left, Contains-append_right, Contains-append_cases}
use Rattle.cil_base.specs.Lists.{all_at, contains_cases, contains_here, contains_later, contains_none}
use Rattle.cil_base.specs.MadeLists.{contains_map, from_map}
use Rattle.cil_base.specs.Paths.{equal_from, less_from}
use Rattle.cil_base.specs.Places.{get_at, get_contains, some_same}
use Rattle.cil_base.specs.Records.{AreRecordsOf}
use Rattle.cil_base.specs.Rising.{all_from, rising_join, rising_nothing}
use Rattle.cil_macros.specs.Item.{Item}
use Rattle.cil_macros.specs.Items.{Kept, item_at, items_in}
use Rattle.cil_macros.proofs.ItemLemmas.{item_there}
use Rattle.cil_rules.specs.Behind.{AreBehind}
use Rattle.cil_rules.specs.Listed.{AreRulesOf, place_cmp}
use Rattle.cil_rules.specs.Rule.{Rule}
use Rattle.cil_rules.specs.declared.rule.NamedRule.{NamedRule}

-- ---- in order

-- what is made of each of a rising list rises, if the order of what is made is that of what it is made of
pub rising_map : {X Y : Type 0} (order : X → X → Ordering) (other : Y → Y → Ordering) (f : X → Y) → ((a b : X) → order a b ≡ Less → other (f a) (f b) ≡ Less) → (xs : List X)
    → IsStrictlySortedBy order xs → IsStrictlySortedBy other (map f xs)
unfolding IsStrictlySortedBy
rising_map order other f h [] r = tt
rising_map order other f h (x ∷ xs) r = (
  all_from (λ y. other (f x) y ≡ Less) (map f xs) (λ y c. let back = from_map f xs y c in
      subst (λ y. other (f x) y ≡ Less) back.2 (h x back.0 (all_at (λ w. order x w ≡ Less) xs back.0 r.0 back.1))),
  rising_map order other f h xs r.1,
)

by_class : NamedRule → NamedRule → Ordering
by_class = on (λ (r : NamedRule). r.class) nat_cmp

-- a rule of an earlier statement is before
earlier : (q r : NamedRule) → q.instance < r.instance → place_cmp q r ≡ Less
earlier q r h = ap (λ o. ordering_then o (nat_cmp q.class r.class)) (less_from q.instance r.instance h)

-- and so is one of the same statement on an earlier class
beside : (q r : NamedRule) → q.instance ≡ r.instance → nat_cmp q.class r.class ≡ Less → place_cmp q r ≡ Less
beside q r same less = ap (λ o. ordering_then o (nat_cmp q.class r.class)) (equal_from q.instance r.instance same) ∙ less

-- rules of one statement that rise by class
rising_there : (place : ℕ) (rules : List NamedRule) → ((r : NamedRule) → Contains rules r → r.instance ≡ place) → IsStrictlySortedBy (on (λ (r : NamedRule). r.class) nat_cmp) rules
    → IsStrictlySortedBy place_cmp rules
unfolding IsStrictlySortedBy
rising_there place [] there rises = tt
rising_there place (r ∷ rs) there rises = (
  all_from (λ q. place_cmp r q ≡ Less) rs (λ q c. beside r q (there r (contains_here r rs) ∙ sym (there q (contains_later q r rs c))) (all_at (λ (z : NamedRule). nat_cmp r.class z.class ≡ Less) rs q rises.0 c)),
  rising_there place rs (λ q c. there q (contains_later q r rs c)) rises.1,
)

-- ---- one statement

module _ {X K : Type 0} (asked : X → K → Type 0) (gives : K → Rule → Type 0) (named : NamedRule → Rule) where
  -- a statement without a case adds nothing
  pub none_behind : (x : X) (place : ℕ) (old : List NamedRule) → ((k : K) → asked x k → ⊥) → AreBehind asked gives named x place old old
  none_behind x place old none = record {
    rules = [];
    behind = sym (append-nil old);
    are = record {
      each = λ z k c a. elim (contains_cases z x [] c) [
        | inl e ↦ absurd (none k (subst (λ w. asked w k) (sym e) a))
        | inr n ↦ absurd (contains_none z n)
      ];
      only = λ y c. absurd (contains_none y c);
    };
    there = λ r c. absurd (contains_none r c);
    rising = rising_nothing (on (λ (r : NamedRule). r.class) nat_cmp);
  }

-- ---- all statements

module _ {K : Type 0} (asked : Item → K → Type 0) (gives : K → Rule → Type 0) (named : NamedRule → Rule) (at : ℕ → Item) where
  -- of no statements there are none
  pub no_rules : AreRulesOf asked gives named at 0 []
  no_rules = record {
    rising = rising_nothing place_cmp;
    each = λ place k below a. absurd (omega (arith, below));
    only = λ r c. absurd (contains_none r c);
  }

  pub all_rules : (n m : ℕ) (rules same : List NamedRule) → n ≡ m → same ≡ rules → AreRulesOf asked gives named at n rules → AreRulesOf asked gives named at m same
  all_rules n m rules same e f are = subst (λ k. AreRulesOf asked gives named at k same) e (subst (AreRulesOf asked gives named at n) (sym f) are)

  module _ (n : ℕ) (old new : List NamedRule) (so_far : AreRulesOf asked gives named at n old) (one : AreBehind asked gives named (at n) n old new) where
    -- its rules are those of the statement at the place behind
    there_rule : (k : K) → asked (at n) k → (r : NamedRule) × Contains one.rules r × gives k (named r)
    there_rule k a =
        let (y, g, c) = one.are.each (at n) k (contains_here (at n) []) a in
        let (r, cr, e) = from_map named one.rules y c in
        (r, cr, subst (gives k) (sym e) g)

    case_there : (r : NamedRule) → Contains one.rules r → (k : K) × asked (at n) k × gives k (named r)
    case_there r c =
        let (x, k, cx, a, g) = one.are.only (named r) (contains_map named one.rules r c) in
        elim (contains_cases x (at n) [] cx) [
          | inl e ↦ (k, subst (λ z. asked z k) (sym e) a, g)
          | inr m ↦ absurd (contains_none x m)
        ]

    each_more : (place : ℕ) (k : K) → place < n + 1 → asked (at place) k → (place < n) ⊎ (place ≡ n) → (r : NamedRule) × Contains (old ++ one.rules) r × (r.instance ≡ place) × gives k (named r)
    each_more place k below a (inl before) =
        let (r, c, is, g) = so_far.each place k before a in (r, Contains-append_left old one.rules r c, is, g)
    each_more place k below a (inr same) =
        let (r, c, g) = there_rule k (subst (λ p. asked (at p) k) same a) in (r, Contains-append_right old one.rules r c, one.there r c ∙ sym same, g)

    two_ways : (place : ℕ) → place < n + 1 → (place < n) ⊎ (place ≡ n)
    two_ways place below = grind (arith, below)

    joined : AreRulesOf asked gives named at (n + 1) (old ++ one.rules)
    joined = record {
      rising =
          rising_join place_cmp old one.rules so_far.rising (rising_there n one.rules one.there one.rising) (λ q r c d. earlier q r (let below = (so_far.only q c).0 in let is = one.there r d in omega (arith, below, is)));
      each = λ place k below a. each_more place k below a (two_ways place below);
      only = λ r c. elim (Contains-append_cases old one.rules r c) [
        | inl d ↦ let o = so_far.only r d in ((let below = o.0 in omega (arith, below)), o.1)
        | inr d ↦
            let is = one.there r d in
            let o = case_there r d in
            ((omega (arith, is)), (o.0, subst (λ p. asked (at p) o.0) (sym is) o.1, o.2))
      ];
    }

    pub more_rules : AreRulesOf asked gives named at (n + 1) new
    more_rules = subst (AreRulesOf asked gives named at (n + 1)) (sym one.behind) joined

-- the rules of all that is placed are the records of all statements
module _ {K : Type 0} (asked : Item → K → Type 0) (gives : K → Rule → Type 0) (named : NamedRule → Rule) (i : Kept) (rules : List NamedRule)
    (are : AreRulesOf asked gives named (item_at i) (length (items_in i)) rules) where
  record_of : (x : Item) (k : K) → Contains (items_in i) x → asked x k → (y : Rule) × gives k y × Contains (map named rules) y
  record_of x k c a =
      let (place, below, is) = get_at (items_in i) x c in
      let same : item_at i place ≡ x = some_same _ _ (sym (item_there i place below) ∙ is) in
      let (r, cr, at, g) = are.each place k below (subst (λ z. asked z k) (sym same) a) in
      (named r, g, contains_map named rules r cr)

  case_of : (y : Rule) → Contains (map named rules) y → (x : Item) × (k : K) × Contains (items_in i) x × asked x k × gives k y
  case_of y c =
      let (r, cr, e) = from_map named rules y c in
      let (below, case) = are.only r cr in
      (item_at i r.instance, case.0, get_contains (items_in i) r.instance (item_at i r.instance) (item_there i r.instance below), case.1, subst (gives case.0) e case.2)

  pub are_records : AreRecordsOf asked gives (items_in i) (map named rules)
  are_records = record { each = record_of; only = case_of }
