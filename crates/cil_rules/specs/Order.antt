-- The order of the records of rules: by branch, source, target, class and mask. This project's profile.
use Rattle.cil_base.specs.Places.{cons_head, cons_tail}
use Rattle.cil_base.specs.Paths.{both_equal, same_by}
use Rattle.std.specs.Prelude.{◌≡◌, ℕ, true, List, [], ◌∷◌, Option, None, Some, length, refl}
use Rattle.std.specs.Cmp.{IsTotalOrder}
use Rattle.std.specs.Ordering.{nat_cmp, on, then_cmp}
use Rattle.std.specs.declared.cmp.Ordering.{Ordering}
use Rattle.std.specs.declared.cmp.Ordering.TheVariants.{Equal}
use Rattle.std.proofs.Common.{ap, arith}
use Rattle.std.proofs.lemmas.Cmp.{then_total, on_total, nat_cmp_total, nat_list_cmp_total}
use Rattle.std.proofs.lemmas.Map.Lookups.{exact_bytes}
use Rattle.cil_base.specs.Lists.{text_cmp}
use Rattle.cil_conditions.specs.declared.branch.Branch.{Branch}
use Rattle.cil_conditions.specs.Order.{branch_cmp, branch_total}
use Rattle.cil_conditions.proofs.OrderLemmas.{one_branch}
use Rattle.cil_rules.specs.Rule.{Rule, Target, Types, Itself}

-- a set as numbers: how many there are, and each
abbrev pub set_fields : List ℕ → List ℕ
set_fields numbers = length numbers ∷ numbers

-- rules in no branch come first
abbrev pub branch_rank : Option Branch → ℕ
branch_rank None = 0
branch_rank (Some b) = 1

abbrev pub some_branch : Option Branch → Branch
some_branch None = record { condition = []; value = true }
some_branch (Some b) = b

abbrev pub in_branch_cmp : Option Branch → Option Branch → Ordering
in_branch_cmp = then_cmp (on branch_rank nat_cmp) (on some_branch branch_cmp)

pub in_branch_total : IsTotalOrder in_branch_cmp
in_branch_total = then_total (on_total branch_rank nat_cmp_total) (on_total some_branch branch_total)

-- a target as numbers: 0 and the types, or 1 for the source itself
abbrev pub target_fields : Target → List ℕ
target_fields (Types numbers) = 0 ∷ set_fields numbers
target_fields Itself = 1 ∷ []

-- rules stand by branch, source, target, class and mask, each by its numbers
abbrev pub rule_cmp : Rule → Rule → Ordering
rule_cmp =
    then_cmp (then_cmp (then_cmp (then_cmp (on (λ r. r.branch) in_branch_cmp) (on (λ r. set_fields r.source) text_cmp)) (on (λ r. target_fields r.target) text_cmp)) (on (λ r. r.class) nat_cmp))
    (on (λ r. r.mask) nat_cmp)

-- any two rules have an order
pub rule_total : IsTotalOrder rule_cmp
rule_total =
    then_total (then_total (then_total (then_total (on_total (λ r. r.branch) in_branch_total) (on_total (λ r. set_fields r.source) nat_list_cmp_total)) (on_total (λ r. target_fields r.target) nat_list_cmp_total))
    (on_total (λ r. r.class) nat_cmp_total))
    (on_total (λ r. r.mask) nat_cmp_total)

same_sets : (a b : List ℕ) → set_fields a ≡ set_fields b → a ≡ b
same_sets a b e = cons_tail _ _ _ _ e

same_targets : (a b : Target) → target_fields a ≡ target_fields b → a ≡ b
same_targets (Types a) (Types b) e = ap Types (same_sets a b (cons_tail _ _ _ _ e))
same_targets (Types a) Itself e = absurd (let f : 0 ≡ 1 = cons_head _ _ _ _ e in omega (arith, f))
same_targets Itself (Types b) e = absurd (let f : 1 ≡ 0 = cons_head _ _ _ _ e in omega (arith, f))
same_targets Itself Itself e = refl

-- two branches that tie are one
same_branches : (a b : Option Branch) → branch_rank a ≡ branch_rank b → branch_cmp (some_branch a) (some_branch b) ≡ Equal → a ≡ b
same_branches None None r e = refl
same_branches None (Some b) r e = absurd (omega (arith, r))
same_branches (Some a) None r e = absurd (omega (arith, r))
same_branches (Some a) (Some b) r e = ap Some (one_branch a b e)

pub same_rules : (a b : Rule) → a.branch ≡ b.branch → a.source ≡ b.source → a.target ≡ b.target → a.class ≡ b.class → a.mask ≡ b.mask → a ≡ b
same_rules a b o s t c m = λ i. record { branch = o i; source = s i; target = t i; class = c i; mask = m i }

-- two rules that tie are one
pub one_rule : (a b : Rule) → rule_cmp a b ≡ Equal → a ≡ b
one_rule a b e =
    let mask = both_equal _ _ e in
    let class_ = both_equal _ _ mask.0 in
    let target = both_equal _ _ class_.0 in
    let source = both_equal _ _ target.0 in
    let branch = both_equal _ _ source.0 in
    same_rules a b (same_branches a.branch b.branch (same_by _ _ branch.0) branch.1) (same_sets _ _ (exact_bytes _ _ source.1)) (same_targets _ _ (exact_bytes _ _ target.1)) (same_by _ _ class_.1)
    (same_by _ _ mask.1)
