-- The order of the bytes of rules is the order of rules.
use Rattle.std.proofs.Common.{◌≡◌, ℕ, ◌^◌, ◌<◌, Bool, true, false, List, [], ◌∷◌, ◌++◌, Option, None, Some, refl, sym, ap, subst, ◌∙◌, append_assoc}
use Rattle.std.specs.Int.{w16, w32, to_be_bytes}
use Rattle.std.specs.List.{AllByRecursion}
use Rattle.std.specs.List.Sorted.{IsStrictlySortedBy}
use Rattle.std.specs.Cmp.Lexicographic.{slice_cmp}
use Rattle.std.specs.Ordering.{nat_cmp, ordering_then}
use Rattle.std.specs.declared.cmp.Ordering.{Ordering}
use Rattle.std.specs.declared.cmp.Ordering.TheVariants as orders
use Rattle.std.proofs.lemmas.List.{append-nil}
use Rattle.cil_base.specs.Lists.{text_cmp}
use Rattle.cil_conditions.specs.declared.branch.Branch.{Branch}
use Rattle.cil_conditions.specs.declared.token.Token.{Token}
use Rattle.cil_conditions.specs.Order.{token_cmp}
use Rattle.cil_format.specs.Fields.{below, set, small}
use Rattle.cil_format.specs.Format.{rise}
use Rattle.cil_format.proofs.SortedRecords.{is_less, sorted_records}
use Rattle.cil_format.proofs.Orders.{order16, order32, set_order}
use Rattle.cil_index.specs.rules.Order.{in_branch_cmp, rule_cmp, rule_total, set_fields, target_fields}
use Rattle.cil_index.specs.rules.Rule.{Rule, Target, Types, Itself}
use Rattle.cil_rule_bytes.specs.Layout.{Limits, branch, condition, on_class, rule, target, tokens_bytes}
use Rattle.cil_rule_bytes.proofs.SpellLemmas.{condition_bytes, condition_small, fits_expression}
use Rattle.cil_rule_bytes.proofs.TokenOrder.{then_assoc, tokens_order}

-- bytes that differ by this order, whatever follows them, or tie
pub record Differ (one two : List ℕ) (o : Ordering) : Type 0 where
  pub behind : (xs ys : List ℕ) → text_cmp (one ++ xs) (two ++ ys) ≡ ordering_then o (text_cmp xs ys)

-- one field, and then another
both_differ : (one two three four : List ℕ) (o p : Ordering) → Differ one two o → Differ three four p → Differ (one ++ three) (two ++ four) (ordering_then o p)
both_differ one two three four o p d e = record {
  behind = λ xs ys.
      ap (λ (w : List ℕ). text_cmp w ((two ++ four) ++ ys)) (append_assoc one three xs) ∙ ap (text_cmp (one ++ (three ++ xs))) (append_assoc two four ys)
      ∙ d.behind (three ++ xs) (four ++ ys) ∙ ap (ordering_then o) (e.behind xs ys) ∙ sym (then_assoc o p (text_cmp xs ys));
}

-- ---- conditions and branches

condition_differ : (booleans : ℕ) (ts us : List Token) → (condition booleans).Fits ts → (condition booleans).Fits us
    → Differ ((condition booleans).spell ts) ((condition booleans).spell us) (slice_cmp token_cmp ts us)
condition_differ booleans ts us p q = record {
  behind = λ xs ys.
      ap (λ (w : List ℕ). text_cmp (w ++ xs) ((condition booleans).spell us ++ ys)) (condition_bytes booleans ts)
      ∙ ap (λ (w : List ℕ). text_cmp (tokens_bytes ts ++ xs) (w ++ ys)) (condition_bytes booleans us)
      ∙ tokens_order 1 ts us xs ys (fits_expression booleans ts p) (fits_expression booleans us q) (condition_small booleans ts p) (condition_small booleans us q);
}

abbrev some_of : List Token → Bool → Option Branch
some_of ts value = Some (record { condition = ts; value = value })

some_differ : (booleans : ℕ) (ts us : List Token) (v w : Bool) → (branch booleans).Fits (some_of ts v) → (branch booleans).Fits (some_of us w)
    → Differ ((branch booleans).spell (some_of ts v)) ((branch booleans).spell (some_of us w)) (in_branch_cmp (some_of ts v) (some_of us w))
some_differ booleans ts us true true p q = record { behind = (condition_differ booleans ts us p.1.0 q.1.0).behind }
some_differ booleans ts us true false p q = record { behind = λ xs ys. refl }
some_differ booleans ts us false true p q = record { behind = λ xs ys. refl }
some_differ booleans ts us false false p q = record { behind = (condition_differ booleans ts us p.1.0 q.1.0).behind }

none_first : (booleans : ℕ) (ts : List Token) (v : Bool) → Differ ((branch booleans).spell None) ((branch booleans).spell (some_of ts v)) orders.Less
none_first booleans ts true = record { behind = λ xs ys. refl }
none_first booleans ts false = record { behind = λ xs ys. refl }

none_last : (booleans : ℕ) (ts : List Token) (v : Bool) → Differ ((branch booleans).spell (some_of ts v)) ((branch booleans).spell None) orders.Greater
none_last booleans ts true = record { behind = λ xs ys. refl }
none_last booleans ts false = record { behind = λ xs ys. refl }

branch_differ : (booleans : ℕ) (a b : Option Branch) → (branch booleans).Fits a → (branch booleans).Fits b → Differ ((branch booleans).spell a) ((branch booleans).spell b) (in_branch_cmp a b)
branch_differ booleans None None p q = record { behind = λ xs ys. refl }
branch_differ booleans None (Some b) p q = none_first booleans b.condition b.value
branch_differ booleans (Some a) None p q = none_last booleans a.condition a.value
branch_differ booleans (Some a) (Some b) p q = some_differ booleans a.condition b.condition a.value b.value p q

-- ---- sets, targets and numbers

pub all_small : (limit : ℕ) (ns : List ℕ) → AllByRecursion (small limit).Fits ns → AllByRecursion (λ n. n < 2 ^ 16) ns
all_small limit [] all = tt
all_small limit (n ∷ ns) all = (all.0.0, all_small limit ns all.1)

set_differ : (limit : ℕ) (a b : List ℕ) → (set limit).Fits a → (set limit).Fits b → Differ ((set limit).spell a) ((set limit).spell b) (text_cmp (set_fields a) (set_fields b))
set_differ limit a b p q = record {
  behind = λ xs ys. set_order a b xs ys (all_small limit a p.1.0.1) (all_small limit b q.1.0.1) p.0.0 q.0.0;
}

target_differ : (types : ℕ) (a b : Target) → (target types).Fits a → (target types).Fits b → Differ ((target types).spell a) ((target types).spell b) (text_cmp (target_fields a) (target_fields b))
target_differ types (Types a) (Types b) p q = record { behind = (set_differ types a b p.1.0 q.1.0).behind }
target_differ types (Types a) Itself p q = record { behind = λ xs ys. refl }
target_differ types Itself (Types b) p q = record { behind = λ xs ys. refl }
target_differ types Itself Itself p q = record { behind = λ xs ys. refl }

class_differ : (widths : List ℕ) (a b : ℕ × ℕ) → (on_class widths).Fits a → (on_class widths).Fits b
    → Differ ((on_class widths).spell a) ((on_class widths).spell b) (ordering_then (nat_cmp a.0 b.0) (nat_cmp a.1 b.1))
class_differ widths a b p q =
    both_differ (to_be_bytes w16 a.0) (to_be_bytes w16 b.0) (to_be_bytes w32 a.1) (to_be_bytes w32 b.1) (nat_cmp a.0 b.0) (nat_cmp a.1 b.1)
    record { behind = λ xs ys. order16 a.0 b.0 xs ys p.0.0 q.0.0 } record { behind = λ xs ys. order32 a.1 b.1 xs ys p.1.0 q.1.0 }

-- ---- rules

five : (a b c d e : Ordering) → ordering_then a (ordering_then b (ordering_then c (ordering_then d e))) ≡ ordering_then (ordering_then (ordering_then (ordering_then a b) c) d) e
five a b c d e =
    sym (then_assoc (ordering_then (ordering_then a b) c) d e ∙ then_assoc (ordering_then a b) c (ordering_then d e) ∙ then_assoc a b (ordering_then c (ordering_then d e)))

module _ (limits : Limits) where
  -- the bytes of rules differ as the rules do
  pub rule_differ : (r s : Rule) → (rule limits).Fits r → (rule limits).Fits s → Differ ((rule limits).spell r) ((rule limits).spell s) (rule_cmp r s)
  rule_differ r s p q =
      let p_parts = p.0.0 in
      let q_parts = q.0.0 in
      let on = class_differ limits.widths (r.class, r.mask) (s.class, s.mask) p_parts.1.1.1 q_parts.1.1.1 in
      let from_target = both_differ _ _ _ _ _ _ (target_differ limits.types r.target s.target p_parts.1.1.0 q_parts.1.1.0) on in
      let from_source = both_differ _ _ _ _ _ _ (set_differ limits.types r.source s.source p_parts.1.0 q_parts.1.0) from_target in
      let all = both_differ _ _ _ _ _ _ (branch_differ limits.booleans r.branch s.branch p_parts.0 q_parts.0) from_source in
      subst (Differ ((rule limits).spell r) ((rule limits).spell s))
      (five (in_branch_cmp r.branch s.branch) (text_cmp (set_fields r.source) (set_fields s.source)) (text_cmp (target_fields r.target) (target_fields s.target)) (nat_cmp r.class s.class) (nat_cmp r.mask s.mask)) all

  -- the order of bytes is the order of rules
  pub byte_order : (r s : Rule) → (rule limits).Fits r → (rule limits).Fits s → text_cmp ((rule limits).spell r) ((rule limits).spell s) ≡ rule_cmp r s
  byte_order r s p q =
      ap (λ (w : List ℕ). text_cmp w ((rule limits).spell s)) (sym (append-nil ((rule limits).spell r)))
      ∙ ap (text_cmp ((rule limits).spell r ++ [])) (sym (append-nil ((rule limits).spell s)))
      ∙ (rule_differ r s p q).behind [] [] ∙ ends (rule_cmp r s)
    where
      ends : (o : Ordering) → ordering_then o orders.Equal ≡ o
      ends orders.Less = refl
      ends orders.Equal = refl
      ends orders.Greater = refl

  -- rules whose bytes rise are in their order, each once
  pub rules_rise : (rs : List Rule) → AllByRecursion (rule limits).Fits rs → rise below (rule limits).spell None rs → IsStrictlySortedBy rule_cmp rs
  rules_rise rs all up =
      sorted_records below (rule limits).spell (rule limits).Fits rule_cmp rule_total
      (λ r s p q less. sym (byte_order r s p q) ∙ is_less (text_cmp ((rule limits).spell r) ((rule limits).spell s)) less) rs all up
