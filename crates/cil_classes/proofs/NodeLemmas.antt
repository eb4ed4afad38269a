-- Nodes in their order: those of an entry stand side by side, and each stands for one class permission or permission of a class map.
use Rattle.std.specs.Prelude.{Some, Result, Ok, Err, MatchResult, slice_get}
use Rattle.std.specs.List.Sorted.{IsBinarySearchResult, IsNonDecreasingBy, IsPartitionPoint, IsSearchInRange, IsStrictlySortedBy}
use Rattle.std.specs.Ordering.{nat_cmp, ordering_then}
use Rattle.std.specs.declared.cmp.Ordering.{Ordering}
use Rattle.std.specs.declared.cmp.Ordering.TheVariants.{Equal, Greater, Less}
use Rattle.std.proofs.Common.{◌≡◌, ℕ, ◌<◌, ◌≤◌, true, false, List, length, get_or, refl, ◌∙◌, ap, inl, inr, arith}
use Rattle.std.proofs.Math.Dec.{leb, ltb}
use Rattle.std.proofs.lemmas.Bool.{cases_lt}
use Rattle.std.proofs.lemmas.Bool.Decides.{nat_tests}
use Rattle.cil_base.specs.Paths.{below_by, same_by}
use Rattle.cil_base.specs.Places.{get_so, in_range}
use Rattle.cil_base.proofs.SearchLemmas.{one_number, rising_at, searched}
use Rattle.cil_classes.specs.declared.nodes.Node.{Node}
use Rattle.cil_classes.specs.declared.nodes.Run.{Run}
use Rattle.cil_classes.specs.NodeOrder.{node_cmp, node_total, one_node}
use Rattle.cil_classes.specs.Nodes.{IsRunOf}

-- ---- the order

-- nodes rise by their entries
entry_rises : (a b : Node) → node_cmp a b ≡ Less → a.entry ≤ b.entry
entry_rises a b less = step (nat_cmp a.entry b.entry) refl less
  where
    step : (o : Ordering) → nat_cmp a.entry b.entry ≡ o → ordering_then o (nat_cmp a.number b.number) ≡ Less → a.entry ≤ b.entry
    step Less e l = let h = below_by a.entry b.entry e in omega (arith, h)
    step Equal e l = let h = same_by a.entry b.entry e in omega (arith, h)
    step Greater e l = absurd (let f : Greater ≡ Less = l in cc)

pub entries_rise : (nodes : List Node) → IsStrictlySortedBy node_cmp nodes → IsNonDecreasingBy (λ (n : Node). n.entry) nodes
entries_rise nodes rising i j d le within =
    elim (cases_lt i j) [
      | inl less ↦ entry_rises (get_or nodes i d) (get_or nodes j d) (rising_at node_cmp nodes i j d rising less within)
      | inr ge ↦ let same : i ≡ j = omega arith in rw same (omega arith)
    ]

-- a node has one place
pub one_place : (nodes : List Node) → IsStrictlySortedBy node_cmp nodes → (v u : ℕ) (n : Node) → slice_get nodes v ≡ Some n → slice_get nodes u ≡ Some n → v ≡ u
one_place nodes rising v u n at bt = one_number (λ (x : Node). x) node_cmp node_total one_node nodes v u n n rising at bt refl

pub node_searched : (nodes : List Node) (n : Node) (r : Result ℕ ℕ) → IsStrictlySortedBy node_cmp nodes → IsSearchInRange r (length nodes)
    → IsBinarySearchResult (λ x. node_cmp x n) nodes r → MatchResult r (λ v. slice_get nodes v ≡ Some n) (λ _. (v : ℕ) → slice_get nodes v ≡ Some n → ⊥)
node_searched nodes n (Ok v) rising range result =
    let is = searched (λ (x : Node). x) node_cmp node_total one_node nodes n (Ok v) rising range result in is.at ∙ ap Some is.has_key
node_searched nodes n (Err v) rising range result = λ u e.
    searched (λ (x : Node). x) node_cmp node_total one_node nodes n (Err v) rising range result u n e refl

-- ---- the nodes of an entry

ltb_true : (a b : ℕ) → ltb a b ≡ true → a < b
ltb_true a b e = grind (arith, nat_tests)

ltb_false : (a b : ℕ) → ltb a b ≡ false → b ≤ a
ltb_false a b e = grind (arith, nat_tests)

leb_true : (a b : ℕ) → leb a b ≡ true → a ≤ b
leb_true a b e = grind (arith, nat_tests)

leb_false : (a b : ℕ) → leb a b ≡ false → b < a
leb_false a b e = grind (arith, nat_tests)

pub point_below : (nodes : List Node) (d i : ℕ) → IsPartitionPoint (λ n. ltb n.entry d ≡ true) (λ n. ltb n.entry d ≡ false) nodes i → IsPartitionPoint (λ n. n.entry < d) (λ n. d ≤ n.entry) nodes i
point_below nodes d i p = (λ k e a b. ltb_true _ _ (p.0 k e a b), λ k e a b. ltb_false _ _ (p.1 k e a b))

pub point_up_to : (nodes : List Node) (d i : ℕ) → IsPartitionPoint (λ n. leb n.entry d ≡ true) (λ n. leb n.entry d ≡ false) nodes i → IsPartitionPoint (λ n. n.entry ≤ d) (λ n. d < n.entry) nodes i
point_up_to nodes d i p = (λ k e a b. leb_true _ _ (p.0 k e a b), λ k e a b. leb_false _ _ (p.1 k e a b))

pub run_is : (nodes : List Node) (d : ℕ) (run : Run) → IsPartitionPoint (λ n. n.entry < d) (λ n. d ≤ n.entry) nodes run.start → IsPartitionPoint (λ n. n.entry ≤ d) (λ n. d < n.entry) nodes run.end
    → IsRunOf nodes d run
run_is nodes d run start end = record {
  of_entry = λ v n low high at.
      let l = start.1 v n low (in_range nodes v n at) in
      let h = end.0 v n (omega arith) high in
      let is : get_or nodes v n ≡ n = get_so nodes v n n at in
      let same : (get_or nodes v n).entry ≡ n.entry = ap (λ (x : Node). x.entry) is in
      omega (arith, l, h, same);
  in_run = λ v n at same.
      let is : (get_or nodes v n).entry ≡ n.entry = ap (λ (x : Node). x.entry) (get_so nodes v n n at) in (
        elim (cases_lt v run.start) [
          | inl less ↦ absurd (let b = start.0 v n (omega arith) less in omega (arith, b, is, same))
          | inr ge ↦ ge
        ],
        elim (cases_lt v run.end) [
          | inl less ↦ less
          | inr ge ↦ absurd (let b = end.1 v n ge (in_range nodes v n at) in omega (arith, b, is, same))
        ],
      );
}
