-- Sections of rules, as they are handed on.
use Rattle.std.specs.Prelude.{Contains, IfOk, Result, Err, map}
use Rattle.std.specs.List.{flat_map}
use Rattle.std.specs.List.Sorted.{IsStrictlySortedBy}
use Rattle.std.proofs.Common.{◌≡◌, ℕ, ◌+◌, ◌*◌, List, [], ◌∷◌, ◌++◌, length, Ok, refl, sym, ◌∙◌, ap, subst, append_assoc, arith}
use Rattle.std.proofs.lemmas.List.{append-nil, length-append}
use Rattle.std.proofs.lemmas.List.Elements.{Contains-append_left, Contains-append_right}
use Rattle.cil_base.specs.declared.memory.NoMemory.{NoMemory}
use Rattle.cil_base.specs.Lists.{Lists, same_members}
use Rattle.cil_conditions.specs.declared.branch.Branch.{Branch}
use Rattle.cil_format.proofs.Bytes.{IsBytes}
use Rattle.cil_index.specs.declared.section.NamedRules.{NamedRules}
use Rattle.cil_index.specs.Sections.{RuleSections}
use Rattle.cil_index.specs.rules.NamedRule.{NamedRule}
use Rattle.cil_index.specs.rules.Kept.{rule_named}
use Rattle.cil_index.specs.rules.Order.{rule_cmp, rule_total}
use Rattle.cil_index.specs.rules.Rule.{Rule}
use Rattle.cil_rule_bytes.specs.Handed.{AreAllNamed, AreNamed, AreRising, all_branches, all_sets, branches_in, sets_in}
use Rattle.cil_rule_bytes.specs.Layout.{Limits, rule_sections}
use Rattle.cil_rule_bytes.proofs.Exact.{sections_exact}
use Rattle.cil_rule_bytes.proofs.RuleOrder.{rules_rise}

-- sections that were read rise
pub rising_read : (limits : Limits) (bytes rest : List ℕ) (s : RuleSections) → IsBytes bytes → (rule_sections limits).read bytes ≡ Ok (s, rest) → AreRising s
unfolding rule_sections
rising_read limits bytes rest s is e =
    let fits = ((sections_exact limits).takes bytes s rest is e).fits in
    record {
      allow = rules_rise limits s.allow fits.0.0.1.1 fits.0.0.1.2;
      auditallow = rules_rise limits s.auditallow fits.0.1.0.1.1 fits.0.1.0.1.2;
      dontaudit = rules_rise limits s.dontaudit fits.0.1.1.1.1 fits.0.1.1.1.2;
    }

-- ---- branches

module _ (s : RuleSections) where
  pub in_allow : (b : Branch) → Contains (flat_map branches_in s.allow) b → Contains (all_branches s) b
  in_allow b c = Contains-append_left (flat_map branches_in s.allow) (flat_map branches_in s.auditallow ++ flat_map branches_in s.dontaudit) b c

  pub in_auditallow : (b : Branch) → Contains (flat_map branches_in s.auditallow) b → Contains (all_branches s) b
  in_auditallow b c =
      Contains-append_right (flat_map branches_in s.allow) (flat_map branches_in s.auditallow ++ flat_map branches_in s.dontaudit) b
      (Contains-append_left (flat_map branches_in s.auditallow) (flat_map branches_in s.dontaudit) b c)

  pub in_dontaudit : (b : Branch) → Contains (flat_map branches_in s.dontaudit) b → Contains (all_branches s) b
  in_dontaudit b c =
      Contains-append_right (flat_map branches_in s.allow) (flat_map branches_in s.auditallow ++ flat_map branches_in s.dontaudit) b
      (Contains-append_right (flat_map branches_in s.auditallow) (flat_map branches_in s.dontaudit) b c)

-- ---- sets

two_each : (rules : List Rule) → length (flat_map sets_in rules) ≡ length rules * 2
two_each [] = refl
two_each (r ∷ rules) = let on = two_each rules in omega (arith, on)

pub all_named : (rows : List Branch) (s : RuleSections) (second third : ℕ) (named : NamedRules) → second ≡ length s.allow * 2 → third ≡ second + length s.auditallow * 2
    → AreNamed rows s.allow 0 s.allow named.allow.items → AreNamed rows s.auditallow second s.auditallow named.auditallow.items
    → AreNamed rows s.dontaudit third s.dontaudit named.dontaudit.items → AreAllNamed rows s named
all_named rows s second third named e f allow auditallow dontaudit = record {
  allow = allow [] (two ++ three) refl;
  auditallow = auditallow one three (two_each s.allow ∙ sym e);
  dontaudit = ap (λ (sets : List (List ℕ)). map (rule_named rows sets) named.dontaudit.items) (sym regrouped) ∙ dontaudit (one ++ two) [] len;
}
  where
    one : List (List ℕ)
    one = flat_map sets_in s.allow

    two : List (List ℕ)
    two = flat_map sets_in s.auditallow

    three : List (List ℕ)
    three = flat_map sets_in s.dontaudit

    regrouped : (one ++ two) ++ (three ++ []) ≡ one ++ (two ++ three)
    regrouped = append_assoc one two (three ++ []) ∙ ap (λ (w : List (List ℕ)). one ++ (two ++ w)) (append-nil three)

    len : length (one ++ two) ≡ third
    len = length-append one two ∙ omega (arith, two_each s.allow, two_each s.auditallow, e, f)

-- ---- rules

same_list : (rules listed : List Rule) → IsStrictlySortedBy rule_cmp rules → Lists rule_cmp (Contains rules) listed → listed ≡ rules
same_list rules listed up is = same_members rule_cmp rule_total listed rules is.rising up (λ r c. (is.members r).0 c) (λ r c. (is.members r).1 c)

-- the lists of rules that rise are these rules
pub same_sections : (rows : List Branch) (sets : List (List ℕ)) (s t : RuleSections) (named : NamedRules) → AreRising s → AreAllNamed rows s named → sets ≡ all_sets s
    → Lists rule_cmp (Contains (map (rule_named rows sets) named.allow.items)) t.allow
    → Lists rule_cmp (Contains (map (rule_named rows sets) named.auditallow.items)) t.auditallow
    → Lists rule_cmp (Contains (map (rule_named rows sets) named.dontaudit.items)) t.dontaudit → t ≡ s
same_sections rows sets s t named up meant e allow auditallow dontaudit =
    let is_meant : (ns : List NamedRule) (rs : List Rule) → map (rule_named rows (all_sets s)) ns ≡ rs → map (rule_named rows sets) ns ≡ rs =
    λ ns rs h. ap (λ (w : List (List ℕ)). map (rule_named rows w) ns) e ∙ h in
    let one : t.allow ≡ s.allow =
    same_list s.allow t.allow up.allow (subst (λ (w : List Rule). Lists rule_cmp (Contains w) t.allow) (is_meant named.allow.items s.allow meant.allow) allow) in
    let two : t.auditallow ≡ s.auditallow =
    same_list s.auditallow t.auditallow up.auditallow
    (subst (λ (w : List Rule). Lists rule_cmp (Contains w) t.auditallow) (is_meant named.auditallow.items s.auditallow meant.auditallow) auditallow) in
    let three : t.dontaudit ≡ s.dontaudit =
    same_list s.dontaudit t.dontaudit up.dontaudit
    (subst (λ (w : List Rule). Lists rule_cmp (Contains w) t.dontaudit) (is_meant named.dontaudit.items s.dontaudit meant.dontaudit) dontaudit) in
    λ i. record { allow = one i; auditallow = two i; dontaudit = three i }

pub then_same : (rows : List Branch) (sets : List (List ℕ)) (s : RuleSections) (named : NamedRules) (r : Result RuleSections NoMemory) → AreRising s → AreAllNamed rows s named → sets ≡ all_sets s
    → IfOk r (λ t. Lists rule_cmp (Contains (map (rule_named rows sets) named.allow.items)) t.allow)
    → IfOk r (λ t. Lists rule_cmp (Contains (map (rule_named rows sets) named.auditallow.items)) t.auditallow)
    → IfOk r (λ t. Lists rule_cmp (Contains (map (rule_named rows sets) named.dontaudit.items)) t.dontaudit) → IfOk r (λ t. t ≡ s)
then_same rows sets s named (Ok t) up meant e allow auditallow dontaudit = same_sections rows sets s t named up meant e allow auditallow dontaudit
then_same rows sets s named (Err x) up meant e allow auditallow dontaudit = tt
